-- A lent order is a hint: two calls over the same mesh and rows, each with orders that are taken, or with none, have one result.
use Rattle.std.specs.Prelude.{ℕ, List, ◌≡◌, refl, Result}
use Rattle.meaning.specs.Scene.{Scene}
use Rattle.meaning.specs.Refusals.{Outcome, Check, Answers}
use Rattle.meaning.specs.MeshRows.{Lent, row_checks, row_count}
use Rattle.meaning.specs.MeshRows.{RowsCounted, RowsListed, RowsSettled, RowsContacts, RowsKept, ContactsKept}
use Rattle.meaning.specs.declared.RowPairs.{RowPairs}
use Rattle.meaning.specs.declared.Wanted.{Wanted}
use Rattle.rows_demands.specs.OfKind.{SameRows}
use Rattle.rows_demands.specs.Carried.{Carry, carried_counted, carried_listed, carried_settled, carried_contacts, carried_kept, carried_kept_contacts}
use Rattle.rows_demands.specs.AnyLent.{Taken}
use Rattle.meaning.specs.declared.KeptRows.{KeptRows}
use Rattle.meaning.specs.declared.Refused.{Refused}

module _ (s : Scene) (l l' : Lent) (here : Taken s l) (there : Taken s l') (first end : ℕ) where
  -- then nothing else that is lent is asked for
  pub as_lent : {A : Type 0} (Right : A → Type 0) (rows : ℕ) (more : List Check) (o : Outcome A) → Answers (row_checks s l' rows first end more) Right o
      → Answers (row_checks s l rows first end more) Right o
  as_lent Right rows more o p = rw (here.enough, here.ordered) (rw (there.enough, there.ordered) at p)

  module _ (w : RowPairs) where
    itself : SameRows w s s first end
    itself = record { pairs = refl; pieces = λ p m. record { at = λ k. refl }; reach = refl }

    carry : Carry s s l l' first end
    carry = record { over = λ R more o p. as_lent R (row_count s) more o p }

    pub counted_alike : (r r' : Result ℕ Refused) → RowsCounted w s l first end r → RowsCounted w s l' first end r' → r ≡ r'
    counted_alike = carried_counted itself carry

    pub listed_alike : (o o' o'' : List ℕ) (r r' : Result ℕ Refused) → RowsListed w s l first end o o' r → RowsListed w s l' first end o o'' r'
        → (r ≡ r') × (o' ≡ o'')
    listed_alike = carried_listed itself carry

    pub settled_alike : (o o' o'' b b' b'' : List ℕ) (r r' : Result ℕ Refused) → RowsSettled w s l first end o o' b b' r
        → RowsSettled w s l' first end o o'' b b'' r' → (r ≡ r') × (o' ≡ o'') × (b' ≡ b'')
    settled_alike = carried_settled itself carry

    pub contacts_alike : (o o' o'' b b' b'' c c' c'' : List ℕ) (r r' : Result ℕ Refused) → RowsContacts w s l first end o o' b b' c c' r
        → RowsContacts w s l' first end o o'' b b'' c c'' r' → (r ≡ r') × (o' ≡ o'') × (b' ≡ b'') × (c' ≡ c'')
    contacts_alike = carried_contacts itself carry

    module _ (m : Wanted) where
      pub kept_alike : (o o' o'' b b' b'' : List ℕ) (r r' : Result KeptRows Refused) → RowsKept w m s l first end o o' b b' r
          → RowsKept w m s l' first end o o'' b b'' r' → (r ≡ r') × (o' ≡ o'') × (b' ≡ b'')
      kept_alike = carried_kept itself carry m

      pub kept_contacts_alike : (o o' o'' b b' b'' c c' c'' : List ℕ) (r r' : Result KeptRows Refused) → ContactsKept w m s l first end o o' b b' c c' r
          → ContactsKept w m s l' first end o o'' b b'' c c'' r' → (r ≡ r') × (o' ≡ o'') × (b' ≡ b'') × (c' ≡ c'')
      kept_contacts_alike = carried_kept_contacts itself carry m
