-- Lemmas on options of any value type that several crates need and std lacks.
use Rattle.std.proofs.Common.{◌≡◌, true, false, Option, None, Some, refl, ap, subst}
use Rattle.std.specs.Option.{option_or, option_map, is_some, IfSome, MatchOption}

pub or_at_none : {X : Type 0} (o p : Option X) → o ≡ None → option_or o p ≡ p
or_at_none None p e = refl
or_at_none (Some x) p e = cc

pub or_none : {X : Type 0} (o p : Option X) → option_or o p ≡ None → (o ≡ None) × (p ≡ None)
or_none None p e = (refl, e)
or_none (Some x) p e = (cc, cc)

pub map_at_none : {X Y : Type 0} (f : X → Y) (o : Option X) → o ≡ None → option_map f o ≡ None
map_at_none f o e = ap (option_map f) e

pub map_none : {X Y : Type 0} (f : X → Y) (o : Option X) → option_map f o ≡ None → o ≡ None
map_none f None e = refl
map_none f (Some x) e = cc

-- what holds where there is none
pub where_none : {X : Type 0} (o : Option X) (P : Type 0) (Q : X → Type 0) → MatchOption o P Q → is_some o ≡ false → P
where_none None P Q fact none = fact
where_none (Some x) P Q fact none = cc

-- what holds of what there is
pub where_some : {X : Type 0} (o : Option X) (P : Type 0) (Q : X → Type 0) → MatchOption o P Q → is_some o ≡ true → (x : X) × Q x
where_some None P Q fact some = absurd cc
where_some (Some x) P Q fact some = (x, fact)

pub if_some : {X : Type 0} (P : X → Type 0) (o : Option X) (x : X) → IfSome o P → o ≡ Some x → P x
if_some P None x holds is = cc
if_some P (Some y) x holds is = let same : y ≡ x = cc in subst P same holds

-- an option has one value at most
pub some_is : {X : Type 0} (x y : X) (o : Option X) → o ≡ Some x → o ≡ Some y → y ≡ x
some_is x y o p q = cc
