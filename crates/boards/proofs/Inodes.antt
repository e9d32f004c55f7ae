-- Where a file's inode stands: its addresses are words, and what stands there is the inode.
use mathlib.Core.Path.{◌≡◌, ap, ◌∙◌}
use mathlib.Core.List.{List}
use Prim.Native.Nat.{ℕ, ◌+◌, ◌*◌, ◌/◌, ◌%◌, ◌^◌, ◌<◌}
use native.Mathlib.Omega.{arith}
use native.Mathlib.Nat.{mod-lt, div-lt_iff_lt-mul}
use lib.ListN.{get_or}
use Rattle.model.specs.Layout.{Kind}
use Rattle.model.specs.Layout.{Layout, layout_of, files}
use Rattle.model.specs.Board.{trailer, inode_block, size_address, root, size}
use Rattle.model.proofs.Formatted.{fits}
use Rattle.kinds.proofs.Figures.{files_32, block_room}
use Rattle.boards.specs.Inodes.{AddressOf, InodeOf}

-- the inodes of a leaf have addresses
pub place : (kind : Kind) (p f : ℕ) → p < 2 ^ 64 → (layout_of kind).words * (p / (layout_of kind).words) + (2 * (f % (layout_of kind).inodes) + 1) < 2 ^ 64
place kind p f l = let fit = fits kind in omega (arith, block_room kind p l, mod-lt f fit.inodes_some, fit.inodes_fit)

-- the inode pointer has an address
pub pointer_room : (kind : Kind) (w f : ℕ) → w < 2 ^ 64 → f < 32 → (layout_of kind).words * (w / (layout_of kind).words) + f / (layout_of kind).inodes < 2 ^ 64
unfolding files
pointer_room kind w f l m =
    let fit = fits kind in
    let leaf : f / (layout_of kind).inodes < (layout_of kind).leaves = (div-lt_iff_lt-mul fit.inodes_some).1 (rw (files_32 kind) m) in
    omega (arith, block_room kind w l, fit.leaves_fit)

pub inode_is : {g : Layout} {b : List ℕ} {f w p a r s : ℕ} → w ≡ trailer g b 0 → p ≡ g.words * (w / g.words) + f / g.inodes → AddressOf g b f a → r ≡ get_or b a 0 → s ≡ get_or b (a + 1) 0
    → InodeOf g b f (record { pointer = p; at = a; root = r; size = s })
unfolding inode_block root size size_address
inode_is ew ep at er es = record { is = rw (ep, ew, er, es, at.is); small = at.small }

-- the size stands after the root word
pub size_is : {g : Layout} {b : List ℕ} {f at s : ℕ} → AddressOf g b f at → s ≡ get_or b (at + 1) 0 → s ≡ size g b f
unfolding size size_address
size_is {b = b} a es = es ∙ ap (λ (x : ℕ). get_or b (x + 1) 0) a.is
