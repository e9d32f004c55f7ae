use mathlib.Core.Path.{◌∙◌}
use native.Mathlib.Omega.{arith}
use lib.IntN.{+ℤ_idl}
use mir.Syntax.{w64}
use mir.Facts.{to_z_pos, to_z-of_z}
use Rattle.answers.proofs.Signs.{negated_fits, done_fits, done_signed, refused_small, refused_signed}
use Rattle.answers.proofs.signed.Goals as goal

pub overflow_cast-result : goal.overflow_cast-result
overflow_cast-result c = done_fits c.requires c.in-Ok.is

pub overflow_cast-result-in-Err : goal.overflow_cast-result-in-Err
overflow_cast-result-in-Err c = record { sfits = refused_small _ c.from.ensures }

-- whichever is taken from the other, so that a wrong sign is refused by `returns-in-Err`
pub overflow_sub-result : goal.overflow_sub-result
overflow_sub-result c = let s = refused_small _ c.from.ensures in simp (to_z_pos w64 s, +ℤ_idl) (omega (arith, s, negated_fits _ s))

pub returns-in-Ok : goal.returns-in-Ok
returns-in-Ok c = done_signed c.requires c.in-Ok.is

pub returns-in-Err : goal.returns-in-Err
returns-in-Err c = let e = c.from.ensures in
    to_z-of_z (overflow_sub-result c) ∙ simp (to_z_pos w64 (refused_small _ e), +ℤ_idl) (refused_signed _ e c.in-Err.is)
