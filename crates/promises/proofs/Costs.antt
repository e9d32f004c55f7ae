-- The promises about stores and plan slices, from the contracts and the laws of bounds.
use mathlib.Core.Path.{sym, ◌∙◌}
use Prim.Native.Nat.{ℕ}
use Rattle.model.specs.Layout.{house, layout_of}
use Rattle.model.specs.Calls.{lowest, write}
use Rattle.model.specs.Cut.{writing, length_to, called_from}
use Rattle.bounds.proofs.Rules.{stores_rule, pairs_rule, sharp_rule}
use Rattle.bounds.proofs.Room.{room_rule, format_room_rule, write_room_rule}
use Rattle.promises.specs.Promises.{StoresPromise, RoomPromise}

pub stores_kept : StoresPromise
unfolding write
stores_kept b f o bytes slice r slice' e =
    let fresh : ℕ → ℕ = lowest house b in
    rw (e.answer, e.plan) (
      stores_rule b f o bytes slice,
      pairs_rule b fresh f o bytes slice,
      sharp_rule b fresh f o bytes slice,
      write_room_rule b fresh f o bytes slice,
    )

pub room_kept : RoomPromise
unfolding called_from write
room_kept k b slice long r slice' = (
  λ f o bytes e z. room_rule k b (lowest (layout_of k) b) (writing f o bytes) slice long (sym e.answer ∙ z),
  λ f n e z. room_rule k b (lowest (layout_of k) b) (length_to f n) slice long (sym e.answer ∙ z),
  λ e z. format_room_rule k b slice long (sym e.answer ∙ z),
)
