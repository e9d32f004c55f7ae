-- What a listing leaves in a buffer.
use Rattle.std.specs.Prelude.{◌≡◌, List, ℕ, ◌≤◌, length}
use Rattle.std.proofs.lemmas.List.Edits.{sets}
use Rattle.model.specs.Layout.{house}
use Rattle.model.specs.Lister.{listing}

-- the listing of an image stands at the front of the buffer, as far as the buffer goes, and r is its length
pub record Listed (image out : List ℕ) (r : ℕ) (out' : List ℕ) : Type 0 where
  pub count : r ≡ length (listing house image)
  pub most : r ≤ 4096
  pub bytes : out' ≡ sets out 0 (listing house image)
