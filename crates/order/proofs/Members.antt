-- Lists of members: what is among them, within others, or among them with each member changed. Assumes nothing.
use mathlib.Core.Path.{◌≡◌, refl, sym, ap, ap₂, subst}
use mathlib.Core.Logic.{inl, inr}
use mathlib.Core.Bool.{Bool, true}
use mathlib.Core.List.{List, [], ◌∷◌, map}
use Rattle.meaning.specs.Diagram.{Diagram}
use Rattle.meaning.specs.Rules.{any}
use Rattle.meaning.proofs.Booleans.{t≢f, or_cases, or_left, or_right}
use Rattle.order.specs.Choices.{Among, Contained, Reordered}
use Rattle.order.specs.Choices as orders

-- ---- a test that some member passes

pub any-among : (p : Diagram → Bool) (ms : List Diagram) → any p ms ≡ true → (f : Diagram) × Among f ms × (p f ≡ true)
unfolding any
any-among p [] e = t≢f (sym e)
any-among p (f ∷ fs) e =
    or_cases {A = (g : Diagram) × Among g (f ∷ fs) × (p g ≡ true)} (p f) (any p fs) e (λ here. (f, inl refl, here))
    (λ later. let (g, i, is) = any-among p fs later in (g, inr i, is))

pub among-any : (p : Diagram → Bool) (ms : List Diagram) (f : Diagram) → Among f ms → p f ≡ true → any p ms ≡ true
unfolding any
among-any p [] f i e = absurd i
among-any p (g ∷ gs) f (inl q) e = or_left (p g) (any p gs) (rw q at e)
among-any p (g ∷ gs) f (inr i) e = or_right (p g) (any p gs) (among-any p gs f i e)

pub any-within : (p : Diagram → Bool) (ms ms' : List Diagram) → Contained ms ms' → any p ms ≡ true → any p ms' ≡ true
any-within p ms ms' w e = let (f, i, is) = any-among p ms e in among-any p ms' f (w f i) is

-- ---- each member changed

module _ {A B : Type 0} (g : A → B) where
  pub among-map : (xs : List A) (x : A) → Among x xs → Among (g x) (map g xs)
  among-map [] x i = absurd i
  among-map (y ∷ ys) x (inl q) = inl (ap g q)
  among-map (y ∷ ys) x (inr i) = inr (among-map ys x i)

  map-among : (xs : List A) (z : B) → Among z (map g xs) → (x : A) × Among x xs × (z ≡ g x)
  map-among [] z i = absurd i
  map-among (y ∷ ys) z (inl q) = (y, inl refl, q)
  map-among (y ∷ ys) z (inr i) = let (x, j, is) = map-among ys z i in (x, inr j, is)

  pub within-map : (xs ys : List A) → Contained xs ys → Contained (map g xs) (map g ys)
  within-map xs ys w z i = let (x, j, is) = map-among xs z i in subst (λ (k : B). Among k (map g ys)) (sym is) (among-map ys x (w x j))

pub map-cong : {A B : Type 0} (g h : A → B) (xs : List A) → ((x : A) → g x ≡ h x) → map g xs ≡ map h xs
map-cong g h [] e = refl
map-cong g h (x ∷ xs) e = ap₂ ◌∷◌ (e x) (map-cong g h xs e)

pub map-map : {A B C : Type 0} (g : B → C) (h : A → B) (xs : List A) → map g (map h xs) ≡ map (λ x. g (h x)) xs
map-map g h [] = refl
map-map g h (x ∷ xs) = ap (◌∷◌ (g (h x))) (map-map g h xs)

-- ---- another order

module _ {A : Type 0} where
  pub reordered-within : {xs ys : List A} → Reordered xs ys → Contained xs ys
  reordered-within orders.empty x i = i
  reordered-within (orders.behind y r) x (inl q) = inl q
  reordered-within (orders.behind y r) x (inr i) = inr (reordered-within r x i)
  reordered-within (orders.exchanged y z zs) x (inl q) = inr (inl q)
  reordered-within (orders.exchanged y z zs) x (inr (inl q)) = inl q
  reordered-within (orders.exchanged y z zs) x (inr (inr i)) = inr (inr i)
  reordered-within (orders.again r s) x i = reordered-within s x (reordered-within r x i)

  pub reordered-back : {xs ys : List A} → Reordered xs ys → Reordered ys xs
  reordered-back orders.empty = orders.empty
  reordered-back (orders.behind y r) = orders.behind y (reordered-back r)
  reordered-back (orders.exchanged y z zs) = orders.exchanged z y zs
  reordered-back (orders.again r s) = orders.again (reordered-back s) (reordered-back r)
