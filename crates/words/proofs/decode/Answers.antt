use mathlib.Core.Path.{◌≡◌, ◌∙◌, ap}
use mathlib.Core.List.{List, []}
use Prim.Native.Nat.{ℕ, ◌*◌, ◌/◌}
use native.Mathlib.Omega.{arith}
use lib.ListN.{length, get_or}
use Rattle.model.specs.Words.{words_of}
use Rattle.words.proofs.Endian.{le_word, chunk_at}
use Rattle.words.proofs.Filling
use Rattle.words.proofs.decode.Goals as goal

pub loop-i-init : goal.loop-i-init
loop-i-init c = Filling.none

pub loop-i-preserved : goal.loop-i-preserved
loop-i-preserved c = let b = c.args.bytes.now in
    let i = c.loop-i.i in
    let chunk = ap (λ (x : List (List ℕ)). get_or x i []) c.as_chunks.ensures.front ∙ chunk_at 8 (length b / 8) b [] i (omega (arith, c.as_chunks.ensures.front_len)) in
    Filling.step c.loop-i.invariant (omega arith) (c.from_le_bytes.ensures ∙ le_word b (8 * i) chunk)

pub returns : goal.returns
unfolding words_of
returns c =
    let e : c.loop-i.i ≡ length c.args.bytes.now / 8 = omega arith in
    rw (← e) c.loop-i.invariant.is
