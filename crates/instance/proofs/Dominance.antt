-- Vectors of an instance and those of a problem that only minimises.
use Rattle.std.proofs.Common.{◌≡◌, ◌^◌, unsigned_abs, ◌<◌, suc, ℤ, not, ◌&&◌, List, [], ◌∷◌, length, map, get_or, refl, sym, ap, ap₂, ◌∙◌, arith}
use Rattle.std.specs.Prelude.{int_lt}
use Rattle.std.proofs.lemmas.Int.{ints}
use Rattle.std.specs.List.{AllByRecursion}
use Rattle.std.proofs.lemmas.List.{length-map, get_or-map}
use Rattle.std.proofs.lemmas.List.Elements.{All-from_recursion, recursion_from_All}
use Rattle.front_set.specs.Vector.{is_below}
use Rattle.front_set.specs.Front.{AreDistinct, AreIncomparable}
use Rattle.front_set.proofs.Rising.{distinct_from_incomparable}
use Rattle.front_set.specs.declared.entry.Entry.{Entry}
use Rattle.instance.specs.declared.objective.Objective.{Objective}
use Rattle.instance.specs.declared.objective.Sense.{Sense}
use Rattle.instance.specs.declared.objective.Sense.TheVariants.{Min, Max}
use Rattle.instance.specs.Shape.{InstanceValue}
use Rattle.instance.specs.ParetoFront.{is_as_good, weakly_dominates, problem_number, problem_numbers, problem_vector, IsProblemVector, listed_entry}

problem_number-twice : (s : Sense) (x : ℤ) → problem_number s (problem_number s x) ≡ x
problem_number-twice Min x = refl
problem_number-twice Max x = omega (arith, ints)

-- a vector of the problem is turned back into that of the instance
pub problem_numbers-twice : (os : List Objective) (us : List ℤ) → problem_numbers os (problem_numbers os us) ≡ us
problem_numbers-twice [] us = refl
problem_numbers-twice (o ∷ os) [] = refl
problem_numbers-twice (o ∷ os) (u ∷ us) = ap₂ (λ x xs. x ∷ xs) (problem_number-twice o.sense u) (problem_numbers-twice os us)

pub problem_numbers-injective : (os : List Objective) (us vs : List ℤ) → problem_numbers os us ≡ problem_numbers os vs → us ≡ vs
problem_numbers-injective os us vs e = sym (problem_numbers-twice os us) ∙ ap (problem_numbers os) e ∙ problem_numbers-twice os vs

pub length-problem_numbers : (os : List Objective) (us : List ℤ) → length (problem_numbers os us) ≡ length us
length-problem_numbers [] us = refl
length-problem_numbers (o ∷ os) [] = refl
length-problem_numbers (o ∷ os) (u ∷ us) = ap suc (length-problem_numbers os us)

as_good-is_below : (s : Sense) (x y : ℤ) → is_as_good s x y ≡ not (int_lt (problem_number s y) (problem_number s x))
as_good-is_below Min x y = refl
as_good-is_below Max x y = ap not (grind (arith, ints))

-- to dominate weakly is to be below, in the vectors of the problem
pub weakly_dominates-is_below : (os : List Objective) (us vs : List ℤ) → length us ≡ length os → length vs ≡ length os → weakly_dominates os us vs ≡ is_below (problem_numbers os us) (problem_numbers os vs)
weakly_dominates-is_below [] [] [] p q = refl
weakly_dominates-is_below [] [] (v ∷ vs) p q = absurd (omega arith)
weakly_dominates-is_below [] (u ∷ us) vs p q = absurd (omega arith)
weakly_dominates-is_below (o ∷ os) [] vs p q = absurd (omega arith)
weakly_dominates-is_below (o ∷ os) (u ∷ us) [] p q = absurd (omega arith)
weakly_dominates-is_below (o ∷ os) (u ∷ us) (v ∷ vs) p q = ap₂ (λ a b. a && b) (as_good-is_below o.sense u v) (weakly_dominates-is_below os us vs (omega arith) (omega arith))

-- entries of distinct vectors are listed with distinct vectors
pub listed_distinct : (i : InstanceValue) (entries : List Entry) → AreIncomparable entries → AreDistinct (map (listed_entry i) entries)
listed_distinct i entries once = λ m n d less below same.
    let within : n < length entries = omega (arith, length-map entries (listed_entry i)) in
    let e : Entry = get_or entries m d in
    let f : Entry = get_or entries n d in
    let first : get_or (map (listed_entry i) entries) m d ≡ listed_entry i e = get_or-map (listed_entry i) entries m d d (omega arith) in
    let second : get_or (map (listed_entry i) entries) n d ≡ listed_entry i f = get_or-map (listed_entry i) entries n d d within in
    let alike : problem_vector i e.costs ≡ problem_vector i f.costs = ap (λ (x : Entry). x.costs) (sym first) ∙ same ∙ ap (λ (x : Entry). x.costs) second in
    distinct_from_incomparable entries once m n d less within (problem_numbers-injective i.objectives e.costs f.costs alike)

small_number : (s : Sense) (x : ℤ) → unsigned_abs x < 2 ^ 63 → unsigned_abs (problem_number s x) < 2 ^ 63
small_number Min x small = small
small_number Max x small = omega (arith, ints)

small_numbers : (os : List Objective) (us : List ℤ) → AllByRecursion (λ x. unsigned_abs x < 2 ^ 63) us → AllByRecursion (λ x. unsigned_abs x < 2 ^ 63) (problem_numbers os us)
small_numbers [] us small = small
small_numbers (o ∷ os) [] small = tt
small_numbers (o ∷ os) (u ∷ us) small = (small_number o.sense u small.0, small_numbers os us small.1)

-- the sign of a number changes nothing of its magnitude
pub bounds_kept : (i : InstanceValue) (u : List ℤ) → IsProblemVector i u → IsProblemVector i (problem_vector i u)
bounds_kept i u bounds = record {
  numbers = length-problem_numbers i.objectives u ∙ bounds.numbers;
  small = All-from_recursion _ _ (small_numbers i.objectives u (recursion_from_All _ u bounds.small));
}
