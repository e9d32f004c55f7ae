use mathlib.Core.Path.{◌≡◌, sym, ap, ◌∙◌}
use mathlib.Core.List.{List, []}
use Prim.Native.Nat.{ℕ, ◌+◌, ◌*◌, ◌/◌}
use native.Mathlib.Omega.{arith}
use lib.ListN.{length, get_or}
use Rattle.std.specs.Simd.{first_chunks}
use Rattle.model.specs.Lists.{tabulate}
use Rattle.model.specs.Words.{word_of}
use Rattle.plans.proofs.Laying.{laid_none, laid_more, length_laid}
use Rattle.taking.specs.Taking.{new_stores}
use Rattle.taking.proofs.Splicing.{le_word, chunk_byte}
use Rattle.taking.proofs.lay_new.Goals as goal

-- The loop has laid the stores of the words before j.

pub loop-j-init : goal.loop-j-init
unfolding tabulate
loop-j-init c = sym (laid_none _ _)

pub loop-j-preserved : goal.loop-j-preserved
loop-j-preserved c =
    let new = c.args.new.now in
    let j = c.loop-j.j in
    let chunk : List ℕ = get_or (first_chunks 8 (length new / 8) new) j [] in
    let word : c.from_le_bytes.result ≡ word_of 8 (λ i. get_or new (8 * j + i) 0) =
    rw c.as_chunks.ensures.front at c.from_le_bytes.ensures ∙ le_word chunk _ (λ i l. chunk_byte 8 (length new / 8) new [] j i (omega (arith, c.as_chunks.ensures.front_len)) l) in
    c.pair.ensures ∙ rw (word, c.loop-j.invariant) (sym (laid_more _ _ _ _))

pub returns : goal.returns
unfolding new_stores
returns c = let all : c.loop-j.j ≡ length c.args.new.now / 8 = omega (arith, c.as_chunks.ensures.front_len) in rw all at c.loop-j.invariant
