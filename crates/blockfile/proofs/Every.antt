-- Every element of a list has a property.
use mathlib.Core.List.{List, [], ◌∷◌, ◌++◌, map}
use Rattle.blockfile.specs.Bytes.{Every}

module _ {A : Type 0} (R : A → Type 0) where
  pub every-left : (xs ys : List A) → Every R (xs ++ ys) → Every R xs
  every-left [] ys h = tt
  every-left (x ∷ xs) ys h = (h.0, every-left xs ys h.1)

  pub every-right : (xs ys : List A) → Every R (xs ++ ys) → Every R ys
  every-right [] ys h = h
  every-right (x ∷ xs) ys h = every-right xs ys h.1

  pub every-join : (xs ys : List A) → Every R xs → Every R ys → Every R (xs ++ ys)
  every-join [] ys h k = k
  every-join (x ∷ xs) ys h k = (h.0, every-join xs ys h.1 k)

  pub every-so : {S : A → Type 0} → ((x : A) → R x → S x) → (xs : List A) → Every R xs → Every S xs
  every-so f [] h = tt
  every-so f (x ∷ xs) h = (f x h.0, every-so f xs h.1)

  pub every-both : (S : A → Type 0) {U : A → Type 0} → ((x : A) → R x → S x → U x) → (xs : List A) → Every R xs → Every S xs → Every U xs
  every-both S f [] h k = tt
  every-both S f (x ∷ xs) h k = (f x h.0 k.0, every-both S f xs h.1 k.1)

-- of a mapped list
module _ {A B : Type 0} (R : B → Type 0) (f : A → B) where
  pub every_map : (xs : List A) → Every (λ x. R (f x)) xs → Every R (map f xs)
  every_map [] h = tt
  every_map (x ∷ xs) h = (h.0, every_map xs h.1)

  pub every-unmap : (xs : List A) → Every R (map f xs) → Every (λ x. R (f x)) xs
  every-unmap [] h = tt
  every-unmap (x ∷ xs) h = (h.0, every-unmap xs h.1)
