use mathlib.Core.Path.{◌∙◌, ap}
use mathlib.Core.List.{List}
use Prim.Native.Nat.{ℕ}
use lib.ListN.{get_or}
use Rattle.model.specs.Words.{byte_of}
use Rattle.model.proofs.Altering.{get_d_tabulate}
use Rattle.words.proofs.Endian.{le_bytes}
use Rattle.words.proofs.byte.Goals as goal

pub returns : goal.returns
returns c = ap (λ (l : List ℕ). get_or l c.args.i 0) (c.to_le_bytes.ensures ∙ le_bytes c.args.x) ∙ get_d_tabulate 8 (byte_of c.args.x) 0 c.args.i c.requires
