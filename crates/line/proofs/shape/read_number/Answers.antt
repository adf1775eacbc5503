use Rattle.std.proofs.Common.{to_z-of_z}
use Rattle.line.specs.Shape.{number_of}
use Rattle.line.proofs.shape.read_number.Goals as goal

pub returns-in_err-size : goal.returns-in_err-size
unfolding number_of
returns-in_err-size c = rw (← c.read_digits.ensures.value, c.in_err-size.was) c.from_residual.ensures

pub returns : goal.returns
unfolding number_of
returns c = rw (to_z-of_z (record { sfits = c.signed.type_inv }), c.signed.ensures, ← c.read_digits.ensures.value, c.in_ok-size.was)
