-- What is told of a lent list whose inverse is made in another: whether it is an order, and then where its inverse stands.
use Rattle.std.specs.Prelude.{ℕ, ◌≤◌, ◌<◌, Bool, true, false, not, ◌||◌, ◌&&◌, List, [], ◌≢◌, ◌≡◌, refl, eqb, length}
use Rattle.std.proofs.Common.{true≢false, sym, ap, ◌∙◌, arith, eq-eqb, ne_eqb}
use Rattle.std.proofs.lemmas.Bool.{not-true}
use Rattle.meaning.specs.Scene.{Scene, scene_of, edge_count, triangle_count, some_below}
use Rattle.meaning.specs.MeshRows.{no_order, wrong_order, Lent}
use Rattle.answers.specs.Answering.{holds_or_not}
use Rattle.answers.specs.Below.{or_left, or_rest}
use Rattle.mesh_orders.specs.Orders.{at, LeadsBack, Order, places_after, places_long, keeps, astray_at, none_astray, leads_back}
use Rattle.mesh_orders.specs.Deciding.{order_of, is_fine}

-- of a list l, a list that was t and is t', and the answer r: a yes says that l is an order, and that t' leads back
pub record OrderTold (l t t' : List ℕ) (r : Bool) : Type 0 where
  pub says : r ≡ not (no_order (length l) l)
  pub made : t' ≡ places_after l t (length l)
  pub out : r ≡ true → LeadsBack (length l) (at l) (at t')
  pub home : r ≡ true → LeadsBack (length l) (at t') (at l)

-- yes only of an order
pub told_order : {l t t' : List ℕ} {r : Bool} → OrderTold l t t' r → r ≡ true → Order (length l) l
told_order {l} {t} {t'} told e = record { whole = refl; inverse = at t'; out = told.out e; home = told.home e }

pub told_long : {l t t' : List ℕ} {r : Bool} → OrderTold l t t' r → length t' ≡ length t
told_long {l} {t} told = ap length told.made ∙ places_long l t (length l)

module _ (l t : List ℕ) (room : length l ≤ length t) where
  abbrev pub made' : List ℕ
  made' = places_after l t (length l)

  order_out : Order (length l) l → LeadsBack (length l) (at l) (at made')
  order_out o = record { inside = o.out.inside; returns = keeps o t room (length l) (omega arith) }

  order_home : Order (length l) l → LeadsBack (length l) (at made') (at l)
  order_home o = record { inside = λ j h. rw (way j h) (o.home.inside j h); returns = λ j h. rw (way j h) (o.home.returns j h) }
    where
      way : (j : ℕ) → j < length l → at made' j ≡ o.inverse j
      way j h =
          ap (at made') (sym (o.home.returns j h)) ∙ keeps o t room (length l) (omega arith) (o.inverse j) (o.home.inside j h)

  module _ (out home : Bool) (e : out ≡ some_below (length l) (astray_at l made' (length l))) (f : home ≡ some_below (length l) (astray_at made' l (length l))) where
    all_out : out || home ≡ false → LeadsBack (length l) (at l) (at made')
    all_out q = none_astray l made' (length l) (sym e ∙ or_left out home q)

    all_home : out || home ≡ false → LeadsBack (length l) (at made') (at l)
    all_home q = none_astray made' l (length l) (sym f ∙ or_rest out home q)

    -- some number goes astray exactly where the list is no order
    same_fault : out || home ≡ no_order (length l) l
    same_fault =
        holds_or_not (no_order (length l) l) (λ bad. by_fault bad (out || home) refl)
        (λ fine. let o = order_of (length l) l fine in rw (fine, e ∙ leads_back l made' (length l) (order_out o), f ∙ leads_back made' l (length l) (order_home o)))
      where
        by_fault : no_order (length l) l ≡ true → (b : Bool) → out || home ≡ b → b ≡ no_order (length l) l
        by_fault bad true q = sym bad
        by_fault bad false q =
            absurd (true≢false (sym bad ∙ is_fine {n = length l} {l = l} (record { whole = refl; inverse = at made'; out = all_out q; home = all_home q })))

    pub tells : OrderTold l t made' (not (out || home))
    tells =
        record {
          says = ap not same_fault;
          made = refl;
          out = λ yes. all_out (not-true (out || home) yes);
          home = λ yes. all_home (not-true (out || home) yes);
        }

-- only one answer is right
pub one_told : {l t t' t'' : List ℕ} (r r' : Bool) → OrderTold l t t' r → OrderTold l t t'' r' → (r ≡ r') × (t' ≡ t'')
one_told r r' p q = (p.says ∙ sym q.says, p.made ∙ sym q.made)

-- ---- 18

-- a list that is lent for n parts is not empty, and no order of them
abbrev pub wrong_for : ℕ → List ℕ → Bool
wrong_for n l = not (eqb (length l) 0) && no_order n l

pub none_lent : (n : ℕ) (l : List ℕ) → length l ≡ 0 → false ≡ wrong_for n l
none_lent n l h = rw (eq-eqb (length l) 0 h)

pub wrong_length : (n : ℕ) (l : List ℕ) → length l ≢ 0 → length l ≢ n → true ≡ wrong_for n l
wrong_length n l h g = rw (ne_eqb (length l) 0 h, ne_eqb (length l) n g)

pub by_inverse : {n : ℕ} {l t t' : List ℕ} {r : Bool} → length l ≢ 0 → length l ≡ n → OrderTold l t t' r → not r ≡ wrong_for n l
by_inverse {n} {l} {r = r} h g told = rw (ne_eqb (length l) 0 h, sym g, told.says) (twice_not (no_order (length l) l))
  where
    twice_not : (b : Bool) → not (not b) ≡ b
    twice_not true = refl
    twice_not false = refl

-- what 18 looks at: the lists of edges and triangles, and the two orders
abbrev pub parts_only : List ℕ → List ℕ → Scene
parts_only e t = scene_of [] e t []

abbrev pub orders_only : List ℕ → List ℕ → Lent
orders_only e t = record { edge_order = e; triangle_order = t; table = 0; places = 0; boxes = 0 }

pub wrong_orders : (e t a b : List ℕ) {p q : Bool} → p ≡ wrong_for (edge_count (parts_only e t)) a → q ≡ wrong_for (triangle_count (parts_only e t)) b
    → p || q ≡ wrong_order (parts_only e t) (orders_only a b)
wrong_orders e t a b h g = rw (h, g)
