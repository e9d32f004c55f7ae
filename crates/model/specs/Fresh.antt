-- Fresh blocks. A page is what a fresh block holds, by the word; the pages of a change are listed in the order in which their blocks
-- are taken: *those beneath a block before it, left to right*. Which block is taken i-th is a parameter, `fresh`, and c counts those
-- taken before: page i of a list goes to block fresh (c + i).
use Rattle.std.specs.Prelude.{Bool, cond, ◌&&◌, ◌||◌, List, [], ◌∷◌, ◌++◌, ℕ, zero, suc, ◌+◌, ◌-◌, ◌*◌, ◌/◌, min, length, get_or, take, drop, leb, ltb}
use Rattle.model.specs.Lists.{tabulate, joined, sum, choose}
use Rattle.model.specs.Words.{byte_of, word_of}
use Rattle.model.specs.Tree.{live, seen, span, link}
use Rattle.model.specs.Store.{Store, store}

-- word j of a block
abbrev pub Page : Type 0
Page = ℕ → ℕ

-- byte i where `new` is written at o and `old` stood before
unfoldable pub splice : ℕ → List ℕ → ℕ → ℕ → ℕ
splice o new old i = cond (leb o i && ltb i (o + length new)) (get_or new (i - o) 0) old

-- of the bytes written at o, those that fall under child j, each child spanning s bytes: *only the part of the caller's bytes that
-- starts at its own offset*, which is o - j * s
unfoldable pub part : ℕ → ℕ → ℕ → List ℕ → List ℕ
part s j o new = take (s - (o - j * s)) (drop (j * s - o) new)

-- how many they are, of l
unfoldable pub part_length : ℕ → ℕ → ℕ → ℕ → ℕ
part_length s j o l = min (s - (o - j * s)) (l - (j * s - o))

module _ (W : ℕ) where
  -- the block of the tree (h, k, n) is made fresh when l bytes are written at o: bytes are written beneath it; or o lies past the size, and the
  -- block exists and holds byte n − 1, the last below the size
  unfoldable pub touched : ℕ → ℕ → ℕ → ℕ → ℕ → Bool
  touched h k n o l = live l || ltb n o && live k && live n && leb n (span W h)

  module _ (b : List ℕ) where
    -- how many fresh blocks the tree takes then
    unfoldable pub fresh_need : ℕ → ℕ → ℕ → ℕ → ℕ → ℕ
    fresh_need zero k n o l = cond (touched zero k n o l) 1 0
    fresh_need (suc h) k n o l = cond (touched (suc h) k n o l) (suc (sum W (λ j. fresh_need h (link W b k j / W) (n - j * span W h) (o - j * span W h) (part_length (span W h) j o l)))) 0

    -- how many of them lie under the children before j
    unfoldable pub fresh_before : ℕ → ℕ → ℕ → ℕ → ℕ → ℕ → ℕ
    fresh_before h k n o l j = sum j (λ i. fresh_need h (link W b k i / W) (n - i * span W h) (o - i * span W h) (part_length (span W h) i o l))

  -- how many a tree takes of which no block exists, whatever the board
  unfoldable pub need : ℕ → ℕ → ℕ → ℕ
  need h o l = fresh_need [] h 0 0 o l

  -- word j of the data block k, of which n bytes lie below the old size, with `new` written at o. *A fresh file block holds what is visible*: bytes at
  -- or past the old size that are not written are 0, *with zeros from s on*
  unfoldable pub data_page : List ℕ → ℕ → ℕ → ℕ → List ℕ → Page
  data_page b k n o new j = word_of 8 (λ i. splice o new (seen (n - (8 * j + i)) (byte_of (link W b k j) i)) (8 * j + i))

  module _ (fresh : ℕ → ℕ) where
    -- *A plan lists them as taken, eight stores each in word order*
    unfoldable pub stored : List Page → ℕ → List Store
    stored [] c = []
    stored (p ∷ ps) c = tabulate W (λ j. store (W * fresh c + j) (p j)) ++ stored ps (suc c)

    -- the pointer to a fresh tree of height h for l bytes at o, where no block exists: its last block
    unfoldable pub fresh_pointer : ℕ → ℕ → ℕ → ℕ → ℕ
    fresh_pointer h o l c = W * fresh (c + need h o l - 1)

    module _ (b : List ℕ) where
      -- word j of the pointer block k over trees of height h, with l bytes written at o: the last block of child j where that is fresh, else
      -- as visible: *a pointer whose span starts at s or later and has no written byte beneath it is null*
      unfoldable pub pointer_page : ℕ → ℕ → ℕ → ℕ → ℕ → ℕ → Page
      pointer_page h k n o l c j =
          let m : ℕ = fresh_need b h (link W b k j / W) (n - j * span W h) (o - j * span W h) (part_length (span W h) j o l) in
          choose m (seen (n - j * span W h) (link W b k j)) (W * fresh (c + fresh_before b h k n o l j + m - 1))

      -- the pages of the tree (h, k, n) with `new` written at o: fresh blocks *on all paths to written bytes*, and where o lies past the size
      -- *the path to byte s − 1 is made fresh too, as far as its blocks exist*
      unfoldable pub build : ℕ → ℕ → ℕ → ℕ → List ℕ → ℕ → List Page
      build zero k n o new c = cond (touched zero k n o (length new)) (data_page b k n o new ∷ []) []
      build (suc h) k n o new c = cond (touched (suc h) k n o (length new)) (joined W (λ j. build h (link W b k j / W) (n - j * span W h) (o - j * span W h) (part (span W h) j o new)
          (c + fresh_before b h k n o (length new) j))
          ++ (pointer_page h k n o (length new) c ∷ [])) []
