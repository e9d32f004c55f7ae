-- How many words a block has: 2 ^ bits of them, 8 to 512.
use Rattle.std.specs.Prelude.{◌≡◌, ℕ, ◌^◌, ◌≤◌}

pub record Width (bits : ℕ) : Type 0 where
  pub low : 3 ≤ bits
  pub high : bits ≤ 9

-- w is the number of words
pub record Wide (bits w : ℕ) : Type 0 where
  pub is : w ≡ 2 ^ bits
  pub least : 8 ≤ w
  pub most : w ≤ 512
