-- The bench sheet's arithmetic of knobs, case 4 and the sums of case 5, as one claim. Document 01, 'Bench sheet'.
use Rattle.std.specs.Prelude.{◌≡◌, pos, negsuc, ◌+ℤ◌}
use Rattle.rotation.specs.Rotation.{rotation_of, clamp_of, mod_of}

pub record SheetKnobs : Type 0 where
  pub up : rotation_of 250 3 ≡ pos 9
  pub down : rotation_of 3 250 ≡ negsuc 8
  pub half : rotation_of 0 128 ≡ negsuc 127
  pub half_back : rotation_of 128 0 ≡ negsuc 127
  -- heading 355 and a rotation of 9
  pub heading : mod_of (pos 355 +ℤ rotation_of 250 3) 360 ≡ 4
  -- vertical speed 48, of the range -50 to 50, and a rotation of 9
  pub vertical_speed : clamp_of (negsuc 49) (pos 50) (pos 48 +ℤ rotation_of 250 3) ≡ pos 50
