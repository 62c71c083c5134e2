-- The laws of frames, and the worked frames. Assumes nothing.
use mathlib.Core.Path.{refl}
use Rattle.modes.specs.Sets.{engaged, armed, cleared, once, coherent}
use Rattle.modes.specs.Row.{coded_sets, code_of}
use Rattle.bench.specs.Holds.{start_channel, bench_at, power_on}
use Rattle.frames.specs.Frames.{raised, frame_of}
use Rattle.frames.specs.Laws.{FrameLaws, FrameExamples}
use Rattle.frames.proofs.Areas.{frame_length, kept}
use Rattle.frames.proofs.Reading.{local, read_back, one_frame, same_bytes, refused_read}
use Rattle.frames.proofs.Writing.{write_read, same_length, before, behind, twice}

pub frame_laws : FrameLaws
frame_laws = record {
  long = frame_length;
  read_back = read_back;
  write_read = write_read;
  one_frame = one_frame;
  same_bytes = same_bytes;
  twice = twice;
  same_length = same_length;
  before = before;
  behind = behind;
  refused_write = kept;
  local = local;
  refused_read = refused_read;
}

pub frame_examples : FrameExamples
unfolding frame_of raised power_on bench_at start_channel code_of coded_sets coherent once cleared armed engaged
frame_examples = record { start = refl; many = refl }
