-- The pairs that a slice holds, and the chunks of two words that give them.
use mathlib.Core.Path.{◌≡◌, refl, ap, ◌∙◌}
use mathlib.Core.List.{List, [], ◌∷◌, ◌++◌}
use Prim.Native.Nat.{ℕ, ◌/◌, ◌≤◌, ◌<◌}
use native.Mathlib.Omega.{arith}
use lib.ListN.{length, get_or, take}
use Rattle.std.proofs.Common.{Bor, Option, Some, None}
use Rattle.std.proofs.lemmas.Iterator.{YieldsList, YieldsList-from_take}
use Rattle.std.proofs.lemmas.Iterator.Splits.{YieldsList-from_shown_while}
use Rattle.std.specs.Iterator.{Yields}
use Rattle.std.specs.declared.iter.Take.{Take}
use Rattle.std.specs.declared.slice.ChunksExact.{ChunksExact}
use Rattle.std.specs.Iterator.Adapters.{take_source, take_count, take_steps}
use Rattle.std.specs.Slice.Iter.{chunks_exact_rest, chunks_exact_size, chunks_exact_steps}
use Rattle.model.specs.Store.{Store, store, paired}

pub length_paired : (l : List ℕ) → length (paired l) ≡ length l / 2
unfolding paired
length_paired [] = refl
length_paired (a ∷ []) = refl
length_paired (a ∷ v ∷ l) = omega (arith, length_paired l)

-- the pair of a chunk
abbrev pub pair_of : Bor (List ℕ) → Store
pair_of x = store (get_or x.now 0 0) (get_or x.now 1 0)

fewer : (l : List ℕ) → length l < 2 → length (paired l) ≡ 0
fewer l h = omega (arith, length_paired l)

next : (x l r : List ℕ) → length x ≡ 2 → l ≡ x ++ r → paired l ≡ store (get_or x 0 0) (get_or x 1 0) ∷ paired r
unfolding paired
next [] l r h e = absurd (omega arith)
next (a ∷ []) l r h e = absurd (omega arith)
next (a ∷ v ∷ []) l r h e = rw e
next (a ∷ v ∷ w ∷ x) l r h e = absurd (omega arith)

chunk_none : (c d : ChunksExact ℕ) → chunks_exact_size c ≡ 2 → chunks_exact_steps c None d → length (paired (chunks_exact_rest c)) ≡ 0
chunk_none c d e t = fewer (chunks_exact_rest c) (omega (arith, t.1.0))

chunk_some : (c : ChunksExact ℕ) (x : Bor (List ℕ)) (d : ChunksExact ℕ) → chunks_exact_size c ≡ 2 → chunks_exact_steps c (Some x) d
    → (chunks_exact_size d ≡ 2) × (paired (chunks_exact_rest c) ≡ pair_of x ∷ paired (chunks_exact_rest d))
chunk_some c x d e t = (t.0 ∙ e, next x.now (chunks_exact_rest c) (chunks_exact_rest d) (t.1.1 ∙ e) t.1.0)

-- the chunks of two words are the pairs
chunks_yielded : (l : List ℕ) {s : ChunksExact ℕ} → chunks_exact_size s ≡ 2 → chunks_exact_rest s ≡ l → YieldsList chunks_exact_steps pair_of s (paired l)
chunks_yielded l {s} size rest =
    rw (← rest) (YieldsList-from_shown_while chunks_exact_steps pair_of (λ c. paired (chunks_exact_rest c)) (λ c. chunks_exact_size c ≡ 2) chunk_none chunk_some s size)

-- the first k of them are the first k pairs
pub pairs_yielded : (l : List ℕ) (k : ℕ) {s : Take (ChunksExact ℕ)} → chunks_exact_size (take_source s) ≡ 2 → chunks_exact_rest (take_source s) ≡ l → take_count s ≡ k
    → YieldsList (take_steps chunks_exact_steps) pair_of s (take k (paired l))
pairs_yielded l k size rest count = YieldsList-from_take k (chunks_yielded l size rest) count

-- each is as long as the first
pub sizes_kept : {A T : Type 0} (steps : Take (ChunksExact T) → Option A → Take (ChunksExact T) → Type 0)
    → ((s : Take (ChunksExact T)) (x : A) (t : Take (ChunksExact T)) → steps s (Some x) t → (chunks_exact_size (take_source s) ≤ chunks_exact_size (take_source t)) × (chunks_exact_size (take_source t) ≤ chunks_exact_size (take_source s)))
    → (xs : List A) (s t : Take (ChunksExact T)) → Yields steps s xs t → (chunks_exact_size (take_source s) ≤ chunks_exact_size (take_source t)) × (chunks_exact_size (take_source t) ≤ chunks_exact_size (take_source s))
sizes_kept steps h [] s t y = let e : chunks_exact_size (take_source s) ≡ chunks_exact_size (take_source t) = ap (λ z. chunks_exact_size (take_source z)) y in (omega arith, omega arith)
sizes_kept steps h (x ∷ xs) s t y = omega (arith, sizes_kept steps h xs y.0 t y.2, h s x y.0 y.1)
