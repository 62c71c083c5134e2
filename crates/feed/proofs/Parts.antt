-- What soundness says of each of six readings, and the way back. Assumes nothing.
use mathlib.Core.Path.{◌≡◌}
use mathlib.Core.Bool.{true}
use Rattle.refusals.proofs.Choices.{and_left, and_right}
use Rattle.feed.specs.declared.Reading.{Reading}
use Rattle.feed.specs.declared.Readings.{Readings}
use Rattle.feed.specs.declared.Wholes.{Wholes}
use Rattle.feed.specs.Sound.{kept, readings_sound}

-- six readings, each of which would be accepted, with their whole values
pub record ReadingsIn (w : Readings) (k : Wholes) : Type 0 where
  pub altitude : kept (Reading.Altitude w.altitude) k.altitude ≡ true
  pub airspeed : kept (Reading.Airspeed w.airspeed) k.airspeed ≡ true
  pub vertical_speed : kept (Reading.VerticalSpeed w.vertical_speed) k.vertical_speed ≡ true
  pub roll : kept (Reading.Roll w.roll) k.roll ≡ true
  pub pitch : kept (Reading.Pitch w.pitch) k.pitch ≡ true
  pub heading : kept (Reading.Heading w.heading) k.heading ≡ true

pub readings_parts : (w : Readings) (k : Wholes) → readings_sound w k ≡ true → ReadingsIn w k
unfolding readings_sound
readings_parts w k h = search (and_left, and_right) depth 8

pub readings_whole : (w : Readings) (k : Wholes) → ReadingsIn w k → readings_sound w k ≡ true
unfolding readings_sound
readings_whole w k h = cc
