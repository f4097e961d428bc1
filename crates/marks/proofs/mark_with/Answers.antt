-- `marks::mark_with` meets its contract: shift and or add, where no bit is lost. Assumes nothing.
use mathlib.Core.Bool.{Bool, true, false, cond}
use mathlib.Core.Path.{◌≡◌, refl, ◌∙◌}
use Prim.Native.Nat.{ℕ}
use mir.Val.{bool_byte}
use Rattle.marks.proofs.ByMarks.{shifted_or}
use Rattle.marks.proofs.mark_with.Goals as goal

byte_is : (b : Bool) → bool_byte b ≡ cond {A = ℕ} b 1 0
byte_is true = refl
byte_is false = refl

pub returns : goal.returns
returns c = shifted_or c.args.hit c.args.mark (c.from.ensures ∙ byte_is c.args.hit) c.requires
