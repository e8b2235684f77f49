-- Lists: each, one, each two in order.
use Rattle.std.proofs.Common.{◌≡◌, Bool, true, false, ◌⊎◌, List, [], ◌∷◌, sym, refl, ap, ◌∙◌, subst, inl, inr}
use Rattle.std.proofs.lemmas.Bool.{cond_both, false≢true, or_cases, or_parts}
use Rattle.list.specs.Lists.{All, Any, In, Pairs, Placed, any, inserted}

module _ {X : Type 0} where
  pub all_map : (P Q : X → Type 0) → ((x : X) → P x → Q x) → (xs : List X) → All P xs → All Q xs
  all_map P Q f [] h = tt
  all_map P Q f (x ∷ xs) h = (f x h.0, all_map P Q f xs h.1)

  pub all_map2 : (P Q R : X → Type 0) → ((x : X) → P x → Q x → R x) → (xs : List X) → All P xs → All Q xs → All R xs
  all_map2 P Q R f [] h i = tt
  all_map2 P Q R f (x ∷ xs) h i = (f x h.0 i.0, all_map2 P Q R f xs h.1 i.1)

  pub all_in : (P : X → Type 0) (xs : List X) → All P xs → (x : X) → In x xs → P x
  all_in P [] h x i = absurd i
  all_in P (y ∷ ys) h x (inl e) = subst P (sym e) h.0
  all_in P (y ∷ ys) h x (inr i) = all_in P ys h.1 x i

  pub all_from : (P : X → Type 0) (xs : List X) → ((x : X) → In x xs → P x) → All P xs
  all_from P [] f = tt
  all_from P (y ∷ ys) f = (f y (inl refl), all_from P ys (λ x i. f x (inr i)))

  pub any_map : (P Q : X → Type 0) → ((x : X) → P x → Q x) → (xs : List X) → Any P xs → Any Q xs
  any_map P Q f [] h = absurd h
  any_map P Q f (x ∷ xs) (inl h) = inl (f x h)
  any_map P Q f (x ∷ xs) (inr h) = inr (any_map P Q f xs h)

  pub any_map2 : (P Q R : X → Type 0) → ((x : X) → P x → Q x → R x) → (xs : List X) → All P xs → Any Q xs → Any R xs
  any_map2 P Q R f [] h i = absurd i
  any_map2 P Q R f (x ∷ xs) h (inl i) = inl (f x h.0 i)
  any_map2 P Q R f (x ∷ xs) h (inr i) = inr (any_map2 P Q R f xs h.1 i)

  -- one as a place in the list
  pub any_out : (P : X → Type 0) (xs : List X) → Any P xs → (x : X) × In x xs × P x
  any_out P [] h = absurd h
  any_out P (x ∷ xs) (inl h) = (x, inl refl, h)
  any_out P (x ∷ xs) (inr h) = let r = any_out P xs h in (r.0, inr r.1, r.2)

  pub any_in : (P : X → Type 0) (xs : List X) (x : X) → In x xs → P x → Any P xs
  any_in P [] x i h = absurd i
  any_in P (y ∷ ys) x (inl e) h = inl (subst P e h)
  any_in P (y ∷ ys) x (inr i) h = inr (any_in P ys x i h)

  pub pairs_two : (R : X → X → Type 0) (xs : List X) → Pairs R xs → (x y : X) → In x xs → In y xs → (x ≡ y) ⊎ (R x y ⊎ R y x)
  pairs_two R [] h x y i j = absurd i
  pairs_two R (z ∷ zs) h x y (inl d) (inl e) = inl (d ∙ sym e)
  pairs_two R (z ∷ zs) h x y (inl d) (inr j) = inr (inl (subst (λ (w : X). R w y) (sym d) (all_in (R z) zs h.0 y j)))
  pairs_two R (z ∷ zs) h x y (inr i) (inl e) = inr (inr (subst (λ (w : X). R w x) (sym e) (all_in (R z) zs h.0 x i)))
  pairs_two R (z ∷ zs) h x y (inr i) (inr j) = pairs_two R zs h.1 x y i j

  -- in strict order an element is the last, or one comes next
  pub next_or_last :
      (R : X → X → Type 0) (xs : List X) → Pairs R xs → (x : X) → In x xs →
      ((z : X) → In z xs → (z ≡ x) ⊎ R z x) ⊎ ((y : X) × In y xs × R x y × ((z : X) → In z xs → ((z ≡ x) ⊎ R z x) ⊎ ((y ≡ z) ⊎ R y z)))
  next_or_last R [] h x i = absurd i
  next_or_last R (v ∷ []) h x (inl e) = inl (λ z j. elim j [ inl d ↦ inl (d ∙ sym e) | inr n ↦ absurd n ])
  next_or_last R (v ∷ (y ∷ ys)) h x (inl e) =
      inr (y, inr (inl refl), subst (λ (u : X). R u y) (sym e) h.0.0, place)
    where
      place : (z : X) → In z (v ∷ (y ∷ ys)) → ((z ≡ x) ⊎ R z x) ⊎ ((y ≡ z) ⊎ R y z)
      place z (inl d) = inl (inl (d ∙ sym e))
      place z (inr (inl d)) = inr (inl (sym d))
      place z (inr (inr j)) = inr (inr (all_in (R y) ys h.1.0 z j))
  next_or_last R (v ∷ vs) h x (inr i) =
      elim (next_or_last R vs h.1 x i) [
        | inl f ↦ inl (λ z j. elim j [ inl d ↦ inr (first z d) | inr m ↦ f z m ])
        | inr n ↦ inr (n.0, inr n.1, n.2, λ z j. elim j [ inl d ↦ inl (inr (first z d)) | inr m ↦ n.3 z m ])
      ]
    where
      first : (z : X) → z ≡ v → R z x
      first z d = subst (λ (u : X). R u x) (sym d) (all_in (R v) vs h.0 x i)

  -- two lists in strict order with the same elements are equal
  pub pairs_unique :
      (R : X → X → Type 0) (P : X → Type 0) → ((x : X) → P x → R x x → ⊥) → ((x y : X) → P x → P y → R x y → R y x → ⊥) →
      (xs ys : List X) → All P xs → All P ys → Pairs R xs → Pairs R ys → ((x : X) → In x xs → In x ys) → ((x : X) → In x ys → In x xs) → xs ≡ ys
  pairs_unique R P irr asym [] [] p q h i f g = refl
  pairs_unique R P irr asym [] (y ∷ ys) p q h i f g = absurd (g y (inl refl))
  pairs_unique R P irr asym (x ∷ xs) [] p q h i f g = absurd (f x (inl refl))
  pairs_unique R P irr asym (x ∷ xs) (y ∷ ys) p q h i f g =
      let e : x ≡ y = heads (f x (inl refl)) (g y (inl refl)) in
      λ t. e t ∷ pairs_unique R P irr asym xs ys p.1 q.1 h.1 i.1 (λ z j. right e z j (f z (inr j))) (λ z j. left e z j (g z (inr j))) t
    where
      heads : In x (y ∷ ys) → In y (x ∷ xs) → x ≡ y
      heads (inl e) b = e
      heads (inr a) (inl e) = sym e
      heads (inr a) (inr b) = absurd (asym x y p.0 q.0 (all_in (R x) xs h.0 y b) (all_in (R y) ys i.0 x a))

      right : x ≡ y → (z : X) → In z xs → In z (y ∷ ys) → In z ys
      right e z j (inl d) = absurd (irr x p.0 (subst (R x) (d ∙ sym e) (all_in (R x) xs h.0 z j)))
      right e z j (inr b) = b

      left : x ≡ y → (z : X) → In z ys → In z (x ∷ xs) → In z xs
      left e z j (inl d) = absurd (irr y q.0 (subst (R y) (d ∙ e) (all_in (R y) ys i.0 z j)))
      left e z j (inr b) = b

  -- the insert
  pub all_inserted : (up : X → X → Bool) (P : X → Type 0) (x : X) (xs : List X) → P x → All P xs → All P (inserted up x xs)
  all_inserted up P x [] h i = (h, tt)
  all_inserted up P x (y ∷ ys) h i =
      cond_both (any (λ z. up z x) (y ∷ ys)) (y ∷ inserted up x ys) (x ∷ (y ∷ ys)) (All P) (λ _. (i.0, all_inserted up P x ys h i.1)) (λ _. (h, i))

  pub any_inserted : (up : X → X → Bool) (P : X → Type 0) (x : X) (xs : List X) → P x ⊎ Any P xs → Any P (inserted up x xs)
  any_inserted up P x [] h = h
  any_inserted up P x (y ∷ ys) h =
      cond_both (any (λ z. up z x) (y ∷ ys)) (y ∷ inserted up x ys) (x ∷ (y ∷ ys)) (Any P) (λ _. later (any_inserted up P x ys) h) (λ _. h)
    where
      later : (P x ⊎ Any P ys → Any P (inserted up x ys)) → P x ⊎ (P y ⊎ Any P ys) → P y ⊎ Any P (inserted up x ys)
      later r (inl a) = inr (r (inl a))
      later r (inr (inl b)) = inl b
      later r (inr (inr c)) = inr (r (inr c))

  pub inserted_any : (up : X → X → Bool) (P : X → Type 0) (x : X) (xs : List X) → Any P (inserted up x xs) → P x ⊎ Any P xs
  inserted_any up P x [] = λ h. h
  inserted_any up P x (y ∷ ys) =
      cond_both (any (λ z. up z x) (y ∷ ys)) (y ∷ inserted up x ys) (x ∷ (y ∷ ys)) (λ l. Any P l → P x ⊎ (P y ⊎ Any P ys)) (λ _ h. later (inserted_any up P x ys) h) (λ _ h. h)
    where
      again : P x ⊎ Any P ys → P x ⊎ (P y ⊎ Any P ys)
      again (inl a) = inl a
      again (inr b) = inr (inr b)

      later : (Any P (inserted up x ys) → P x ⊎ Any P ys) → P y ⊎ Any P (inserted up x ys) → P x ⊎ (P y ⊎ Any P ys)
      later r (inl a) = inr (inl a)
      later r (inr b) = again (r b)

  any_true : (p : X → Bool) (xs : List X) → any p xs ≡ true → Any (λ y. p y ≡ true) xs
  any_true p [] h = absurd (false≢true h)
  any_true p (x ∷ xs) h = elim (or_cases (p x) (any p xs) h) [ inl t ↦ inl t | inr t ↦ inr (any_true p xs t) ]

  pub any_false : (p : X → Bool) (xs : List X) → any p xs ≡ false → All (λ y. p y ≡ false) xs
  any_false p [] h = tt
  any_false p (x ∷ xs) h = let q = or_parts (p x) (any p xs) h in (q.0, any_false p xs q.1)

  -- the insert keeps the order
  pub pairs_inserted :
      (up : X → X → Bool) (R : X → X → Type 0) (P : X → Type 0) →
      ((a b : X) → P a → P b → up a b ≡ true → R a b) → ((a b : X) → P a → P b → up a b ≡ false → R b a) → ((a b c : X) → P a → P b → P c → R a b → R b c → R a c) →
      (x : X) (xs : List X) → P x → All P xs → Pairs R xs → Pairs R (inserted up x xs)
  pairs_inserted up R P t f tr x [] p q h = (tt, tt)
  pairs_inserted up R P t f tr x (y ∷ ys) p q h =
      cond_both (any (λ z. up z x) (y ∷ ys)) (y ∷ inserted up x ys) (x ∷ (y ∷ ys)) (Pairs R)
      (λ e. (all_inserted up (R y) x ys (first (any_true (λ z. up z x) (y ∷ ys) e)) h.0, pairs_inserted up R P t f tr x ys p q.1 h.1))
      (λ e. (all_map2 P (λ z. up z x ≡ false) (R x) (λ z pz e. f z x pz p e) (y ∷ ys) q (any_false (λ z. up z x) (y ∷ ys) e), h))
    where
      first : Any (λ z. up z x ≡ true) (y ∷ ys) → R y x
      first (inl e) = t y x q.0 p e
      first (inr i) = let z = any_out (λ z. up z x ≡ true) ys i in let pz = all_in P ys q.1 z.0 z.1 in tr y z.0 x q.0 pz p (all_in (R y) ys h.0 z.0 z.1) (t z.0 x pz p z.2)

  -- in a list in order, the insert stands behind all that are no later and before all that are later
  pub placed :
      (up : X → X → Bool) (P : X → Type 0) → ((a b x : X) → P a → P b → P x → up a b ≡ true → up b x ≡ true → up a x ≡ true) →
      (x : X) (xs : List X) → P x → All P xs → Pairs (λ a b. up a b ≡ true) xs → Placed up x xs (inserted up x xs)
  placed up P tr x [] p q h = record { front = []; back = []; was = refl; is = refl; no_later = tt; later = tt }
  placed up P tr x (y ∷ ys) p q h =
      let r = placed up P tr x ys p q.1 h.1 in
      cond_both (any (λ z. up z x) (y ∷ ys)) (y ∷ inserted up x ys) (x ∷ (y ∷ ys)) (Placed up x (y ∷ ys))
      (λ e. record {
        front = y ∷ r.front;
        back = r.back;
        was = ap (λ (z : List X). y ∷ z) r.was;
        is = ap (λ (z : List X). y ∷ z) r.is;
        no_later = (first (any_true (λ z. up z x) (y ∷ ys) e), r.no_later);
        later = r.later;
      })
      (λ e. record { front = []; back = y ∷ ys; was = refl; is = refl; no_later = tt; later = any_false (λ z. up z x) (y ∷ ys) e })
    where
      first : Any (λ z. up z x ≡ true) (y ∷ ys) → up y x ≡ true
      first (inl e) = e
      first (inr i) = let z = any_out (λ z. up z x ≡ true) ys i in tr y z.0 x q.0 (all_in P ys q.1 z.0 z.1) p (all_in (λ z. up y z ≡ true) ys h.0 z.0 z.1) z.2
