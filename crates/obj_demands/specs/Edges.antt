-- 'A face a b c gives edges a b, b c, c a; each edge, either way round, stands once, as it first appears' (document 02, §3): each side of each face is
-- there, none stands twice, and what stands there stays in front of what comes later.
use Rattle.std.specs.Prelude.{Bool, true, false, ◌&&◌, ◌||◌, List, [], ◌∷◌, ◌++◌, ◌⊎◌, ◌≡◌, refl, ℕ, eqb}
use Rattle.std.proofs.Common.{append_assoc, append-nil, inl, inr, ⊎_elim, sym, ap, ◌∙◌, subst, eqb-true, eq-eqb, ne_eqb}
use Rattle.std.proofs.lemmas.Bool.{eqb-false}
use Rattle.sequences.specs.Pick.{pick_has, neither, or_true}
use Rattle.meaning.specs.ObjFile.{joined, with_side, with_sides, edges_from, edges_of}

-- two numbers an edge
unfoldable pub Paired : List ℕ → Type 0
Paired [] = Unit
Paired (x ∷ []) = ⊥
Paired (x ∷ y ∷ l) = Paired l

-- no edge stands again further on
unfoldable pub Once : List ℕ → Type 0
Once [] = Unit
Once (x ∷ []) = Unit
Once (x ∷ y ∷ l) = (joined x y l ≡ false) × Once l

-- a face among others
unfoldable pub HasFace : ℕ → ℕ → ℕ → List ℕ → Type 0
HasFace a b c [] = ⊥
HasFace a b c (x ∷ []) = ⊥
HasFace a b c (x ∷ y ∷ []) = ⊥
HasFace a b c (x ∷ y ∷ z ∷ k) = ((x ≡ a) × (y ≡ b) × (z ≡ c)) ⊎ HasFace a b c k

-- its three sides among edges
abbrev pub SidesIn : ℕ → ℕ → ℕ → List ℕ → Type 0
SidesIn a b c l = (joined a b l ≡ true) × (joined b c l ≡ true) × (joined c a l ≡ true)

-- ---- a list with another behind it

paired_append : (l k : List ℕ) → Paired l → Paired k → Paired (l ++ k)
unfolding Paired
paired_append [] k p q = q
paired_append (x ∷ []) k p q = absurd p
paired_append (x ∷ y ∷ l) k p q = paired_append l k p q

pub joined_append : (a b : ℕ) (l k : List ℕ) → Paired l → joined a b (l ++ k) ≡ joined a b l || joined a b k
unfolding joined Paired
joined_append a b [] k p = refl
joined_append a b (x ∷ []) k p = absurd p
joined_append a b (x ∷ y ∷ l) k p = go ((eqb x a && eqb y b) || (eqb x b && eqb y a)) (joined a b l) (joined_append a b l k p)
  where
    go : (s t : Bool) → joined a b (l ++ k) ≡ t || joined a b k → s || joined a b (l ++ k) ≡ s || t || joined a b k
    go true t e = refl
    go false t e = e

eqb_turned : (a b : ℕ) → eqb a b ≡ eqb b a
eqb_turned a b = go (eqb a b) refl
  where
    go : (t : Bool) → eqb a b ≡ t → t ≡ eqb b a
    go true e = sym (eq-eqb b a (sym (eqb-true a b e)))
    go false e = sym (ne_eqb b a (λ q. eqb-false a b e (sym q)))

-- an edge is itself, and asked for from either side
pub same_edge : (a b : ℕ) → joined a b (a ∷ b ∷ []) ≡ true
unfolding joined
same_edge a b = rw (eq-eqb a a refl, eq-eqb b b refl)

turned_edge : (x y a b : ℕ) → joined a b (x ∷ y ∷ []) ≡ joined x y (a ∷ b ∷ [])
unfolding joined
turned_edge x y a b = rw (eqb_turned x a, eqb_turned y b, eqb_turned x b, eqb_turned y a) (swap (eqb a x) (eqb b y) (eqb b x) (eqb a y))
  where
    swap : (p q r s : Bool) → (p && q) || (r && s) || false ≡ (p && q) || (s && r) || false
    swap p q true true = refl
    swap p q true false = refl
    swap p q false true = refl
    swap p q false false = refl

-- ---- a side more

module _ (a b : ℕ) (l : List ℕ) (p : Paired l) where
  pub paired_side : Paired (with_side l a b)
  unfolding Paired
  paired_side = pick_has Paired (joined a b l) (λ t. p) (λ t. paired_append l (a ∷ b ∷ []) p tt)

  pub side_there : joined a b (with_side l a b) ≡ true
  side_there =
      pick_has (λ k. joined a b k ≡ true) (joined a b l) (λ t. t)
      (λ t. joined_append a b l (a ∷ b ∷ []) p ∙ or_true (joined a b l) (joined a b (a ∷ b ∷ [])) (same_edge a b))

  pub side_keeps : (x y : ℕ) → joined x y l ≡ true → joined x y (with_side l a b) ≡ true
  side_keeps x y h =
      pick_has (λ k. joined x y k ≡ true) (joined a b l) (λ t. h)
      (λ t. joined_append x y l (a ∷ b ∷ []) p ∙ ap (λ (s : Bool). s || joined x y (a ∷ b ∷ [])) h)

pub side_in_front : (a b : ℕ) (l : List ℕ) → (m : List ℕ) × (with_side l a b ≡ l ++ m)
side_in_front a b l = pick_has (λ k. (m : List ℕ) × (k ≡ l ++ m)) (joined a b l) (λ t. ([], sym (append-nil l))) (λ t. (a ∷ b ∷ [], refl))

once_more : (a b : ℕ) (l : List ℕ) → Paired l → Once l → joined a b l ≡ false → Once (l ++ (a ∷ b ∷ []))
unfolding Paired Once joined
once_more a b [] p o h = (refl, tt)
once_more a b (x ∷ []) p o h = absurd p
once_more a b (x ∷ y ∷ l) p o h =
    let (front, rest) = neither ((eqb x a && eqb y b) || (eqb x b && eqb y a)) (joined a b l) h in
    let apart : joined a b (x ∷ y ∷ []) ≡ false = ap (λ (s : Bool). s || false) front in
    let other : joined x y (a ∷ b ∷ []) ≡ false = sym (turned_edge x y a b) ∙ apart in
    (joined_append x y l (a ∷ b ∷ []) p ∙ rw (o.0, other), once_more a b l p o.1 rest)

pub once_side : (a b : ℕ) (l : List ℕ) → Paired l → Once l → Once (with_side l a b)
once_side a b l p o = pick_has Once (joined a b l) (λ t. o) (λ t. once_more a b l p o t)

-- ---- the sides of a face, and of all

module _ (a b c : ℕ) (l : List ℕ) (p : Paired l) where
  one : Paired (with_side l a b)
  one = paired_side a b l p

  two : Paired (with_side (with_side l a b) b c)
  two = paired_side b c (with_side l a b) one

  pub paired_sides : Paired (with_sides l a b c)
  paired_sides = paired_side c a (with_side (with_side l a b) b c) two

  pub sides_there : (joined a b (with_sides l a b c) ≡ true) × (joined b c (with_sides l a b c) ≡ true) × (joined c a (with_sides l a b c) ≡ true)
  sides_there = (
    side_keeps c a (with_side (with_side l a b) b c) two a b (side_keeps b c (with_side l a b) one a b (side_there a b l p)),
    side_keeps c a (with_side (with_side l a b) b c) two b c (side_there b c (with_side l a b) one),
    side_there c a (with_side (with_side l a b) b c) two,
  )

  pub sides_keep : (x y : ℕ) → joined x y l ≡ true → joined x y (with_sides l a b c) ≡ true
  sides_keep x y h =
      side_keeps c a (with_side (with_side l a b) b c) two x y
      (side_keeps b c (with_side l a b) one x y (side_keeps a b l p x y h))

  pub once_sides : Once l → Once (with_sides l a b c)
  once_sides o =
      once_side c a (with_side (with_side l a b) b c) two (once_side b c (with_side l a b) one (once_side a b l p o))

pub edges_keep : (x y : ℕ) (l k : List ℕ) → Paired l → joined x y l ≡ true → joined x y (edges_from l k) ≡ true
unfolding edges_from
edges_keep x y l [] p h = h
edges_keep x y l (a ∷ []) p h = h
edges_keep x y l (a ∷ b ∷ []) p h = h
edges_keep x y l (a ∷ b ∷ c ∷ k) p h = edges_keep x y (with_sides l a b c) k (paired_sides a b c l p) (sides_keep a b c l p x y h)

sides_move : (l : List ℕ) (x y z a b c : ℕ) → x ≡ a → y ≡ b → z ≡ c → SidesIn x y z l → SidesIn a b c l
sides_move l x y z a b c e f g h =
    subst (λ (w : ℕ). SidesIn a b w l) g (subst (λ (v : ℕ). SidesIn a v z l) f (subst (λ (u : ℕ). SidesIn u y z l) e h))

-- each side of each face
pub each_side : (a b c : ℕ) (l k : List ℕ) → Paired l → HasFace a b c k → SidesIn a b c (edges_from l k)
unfolding edges_from HasFace
each_side a b c l [] p f = absurd f
each_side a b c l (x ∷ []) p f = absurd f
each_side a b c l (x ∷ y ∷ []) p f = absurd f
each_side a b c l (x ∷ y ∷ z ∷ k) p f =
    let q : Paired (with_sides l x y z) = paired_sides x y z l p in
    let (u, v, w) = sides_there x y z l p in
    ⊎_elim
    (λ e.
    sides_move (edges_from (with_sides l x y z) k) x y z a b c e.0 e.1 e.2
    (edges_keep x y (with_sides l x y z) k q u, edges_keep y z (with_sides l x y z) k q v, edges_keep z x (with_sides l x y z) k q w))
    (each_side a b c (with_sides l x y z) k q)
    f

pub every_side : (a b c : ℕ) (k : List ℕ) → HasFace a b c k → SidesIn a b c (edges_of k)
unfolding Paired
every_side a b c k f = each_side a b c [] k tt f

-- as it first appears: what stands there stays in front, and a side that is not there comes behind
pub first_in_front : (l k : List ℕ) → (m : List ℕ) × (edges_from l k ≡ l ++ m)
unfolding edges_from
first_in_front l [] = ([], sym (append-nil l))
first_in_front l (a ∷ []) = ([], sym (append-nil l))
first_in_front l (a ∷ b ∷ []) = ([], sym (append-nil l))
first_in_front l (a ∷ b ∷ c ∷ k) =
    let (m₁, e₁) = side_in_front a b l in
    let (m₂, e₂) = side_in_front b c (with_side l a b) in
    let (m₃, e₃) = side_in_front c a (with_side (with_side l a b) b c) in
    let (m₄, e₄) = first_in_front (with_sides l a b c) k in (
      m₁ ++ (m₂ ++ (m₃ ++ m₄)),
      e₄ ∙ ap (λ (x : List ℕ). x ++ m₄) e₃
          ∙ append_assoc (with_side (with_side l a b) b c) m₃ m₄
          ∙ ap (λ (x : List ℕ). x ++ (m₃ ++ m₄)) e₂
          ∙ append_assoc (with_side l a b) m₂ (m₃ ++ m₄)
          ∙ ap (λ (x : List ℕ). x ++ (m₂ ++ (m₃ ++ m₄))) e₁
          ∙ append_assoc l m₁ (m₂ ++ (m₃ ++ m₄)),
    )

-- none twice
once_from : (l k : List ℕ) → Paired l → Once l → Once (edges_from l k)
unfolding edges_from
once_from l [] p o = o
once_from l (a ∷ []) p o = o
once_from l (a ∷ b ∷ []) p o = o
once_from l (a ∷ b ∷ c ∷ k) p o = once_from (with_sides l a b c) k (paired_sides a b c l p) (once_sides a b c l p o)

pub none_twice : (k : List ℕ) → Once (edges_of k)
unfolding Paired Once
none_twice k = once_from [] k tt tt
