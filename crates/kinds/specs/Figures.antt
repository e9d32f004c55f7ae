-- The figures of a kind of board, with what is known of them.
use Rattle.std.specs.Prelude.{◌≡◌, ℕ, ◌^◌, ◌≤◌, refl}
use Rattle.std.proofs.Common.{arith}
use Rattle.model.specs.Layout.{Kind, House, Published, layout_of}
use Rattle.model.specs.Board.{greatest}
use Rattle.model.specs.Tree.{span}
use Rattle.words.specs.Width.{Width}

pub record Bits (kind : Kind) (r : ℕ) : Type 0 where
  pub is : (layout_of kind).words ≡ 2 ^ r
  pub width : Width r

pub record InodeBits (kind : Kind) (r : ℕ) : Type 0 where
  pub is : (layout_of kind).inodes ≡ 2 ^ r
  pub small : r ≤ 5

-- the words of a block
pub record Words (kind : Kind) (r : ℕ) : Type 0 where
  pub is : r ≡ (layout_of kind).words
  pub least : 8 ≤ r
  pub most : r ≤ 512

pub record Most (kind : Kind) (r : ℕ) : Type 0 where
  pub is : r ≡ (layout_of kind).most
  pub small : r ≤ 1024

-- all of them: the width's bits, a leaf's inodes, the mark, the most blocks, the leaves, the greatest height and the greatest size
pub record Figures (kind : Kind) (W I M B L H S : ℕ) : Type 0 where
  pub bits : Bits kind W
  pub inode_bits : InodeBits kind I
  pub mark : M ≡ (layout_of kind).mark
  pub most : Most kind B
  pub leaves : L ≡ (layout_of kind).leaves
  pub height : H ≡ (layout_of kind).height
  pub size : S ≡ greatest (layout_of kind)

abbrev pub house_kind : Kind
house_kind = House

abbrev pub published_kind : Kind
published_kind = Published

pub house_width : Width 3
house_width = record { low = omega arith; high = omega arith }

pub published_width : Width 9
published_width = record { low = omega arith; high = omega arith }

pub house_figures : Figures house_kind 3 2 1 1024 8 3 32768
unfolding greatest span
house_figures = record {
  bits = record { is = refl; width = house_width };
  inode_bits = record { is = refl; small = omega arith };
  mark = refl;
  most = record { is = refl; small = omega arith };
  leaves = refl;
  height = refl;
  size = refl;
}

pub published_figures : Figures published_kind 9 5 3 512 1 1 2097152
unfolding greatest span
published_figures = record {
  bits = record { is = refl; width = published_width };
  inode_bits = record { is = refl; small = omega arith };
  mark = refl;
  most = record { is = refl; small = omega arith };
  leaves = refl;
  height = refl;
  size = refl;
}
