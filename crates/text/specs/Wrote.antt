-- Text that is written into a buffer.
use Rattle.std.specs.Prelude.{◌≡◌, List, ℕ, ◌+◌, ◌≤◌, length}
use Rattle.std.proofs.lemmas.List.Edits.{sets}
use Rattle.text.specs.declared.Text.{Text}

-- t' is t with a text added, of at most `most` bytes: it stands in the buffer behind the text that was there, as far as the buffer goes
pub record Wrote (most : ℕ) (text : List ℕ) (t t' : Text) : Type 0 where
  pub short : length text ≤ most
  pub next : t'.len ≡ t.len + length text
  pub bytes : t'.out.now ≡ sets t.out.now t.len text
  pub same_buffer : t'.out.ghost_name ≡ t.out.ghost_name
