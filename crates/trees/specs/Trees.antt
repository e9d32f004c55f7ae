-- What the functions on trees answer, with the bounds that their callers need.
use Rattle.std.specs.Prelude.{◌≡◌, Bool, ◌&&◌, List, ℕ, ◌-◌, ◌*◌, ◌/◌, ◌^◌, ◌≤◌, ◌<◌, length}
use Rattle.model.specs.Lists.{every, joined}
use Rattle.model.specs.Tree.{span, aligned, cell, blocks, sound}
use Rattle.words.specs.Width.{Width}
use Rattle.trees.specs.Marks.{Marked}

-- a tree whose span can be computed: of height 0 to 7 on a house board, 0 to 1 with the published block
pub record Reach (bits h : ℕ) : Type 0 where
  pub width : Width bits
  pub spans : span (2 ^ bits) h ≤ 134217728

pub record Spanned (W h r : ℕ) : Type 0 where
  pub is : r ≡ span W h
  pub low : 64 ≤ r
  pub high : r ≤ 134217728

-- a crawl marks the live blocks of a tree
pub record Crawled (W top : ℕ) (b : List ℕ) (h k n : ℕ) (m : List ℕ) (ok : Bool) (m' : List ℕ) : Type 0 where
  pub crawled : Marked (sound W b top h k n) (blocks W b h k n) m ok m'

-- the same of the children of block k, trees of height h
pub record Beneath (W top : ℕ) (b : List ℕ) (h k n : ℕ) (m : List ℕ) (ok : Bool) (m' : List ℕ) : Type 0 where
  pub crawled :
      Marked (every W (λ j. aligned W (n - j * span W h) (cell W b k j) && sound W b top h (cell W b k j / W) (n - j * span W h)))
      (joined W (λ j. blocks W b h (cell W b k j / W) (n - j * span W h))) m ok m'

-- r is how many live blocks a tree has
pub record Counted (W : ℕ) (b : List ℕ) (h k n r : ℕ) : Type 0 where
  pub is : r ≡ length (blocks W b h k n)
  pub most : r < span W h
