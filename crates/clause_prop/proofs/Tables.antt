-- The tables of a trail, as steps come and go.
use Rattle.std.proofs.Common.{◌≡◌, ◌≢◌, ℕ, zero, ◌+◌, ◌-◌, ◌<◌, ◌≤◌, ◌++◌, Bool, not, List, [], ◌∷◌, length, take, get_or, set, replicate, Option, None, Some, All, cond, refl, arith, ap, sym, ◌∙◌, subst, ⊎_elim, count_by, length-set, length-take, get_or-set_other, get_or-set_same, get_or-take}
use Rattle.std.specs.Prelude.{slice_get}
use Rattle.std.specs.Option.{is_some}
use Rattle.std.proofs.lemmas.Option.{slice_get-get_or, none-some}
use Rattle.std.proofs.lemmas.List.{get_or_default, set-set, set-get_or, set-append_left, take-set, take-take, replicate-append-replicate, length-replicate, length-append}
use Rattle.std.proofs.lemmas.Bool.{cases_eq}
use Rattle.std.proofs.lemmas.List.Sums.{sum_by-set, sum_by-append, count_by-le-length}
use Rattle.std.proofs.lemmas.List.Folds.{sum_by-replicate}
use Rattle.std.specs.List.{fold}
use Rattle.std.proofs.Math.Seq.{take-append_seam}
use Rattle.std.proofs.lemmas.List.Elements.{All-push, All-head, All-tail}
use Rattle.std.proofs.lemmas.List.Quantifiers.{all_pairs_push}
use Rattle.pb_lin.proofs.AtPlace.{take_place}
use Rattle.std.specs.Prelude.{if◌then◌else◌}
use Rattle.scut_base.specs.Literal.{Literal}
use Rattle.scut_base.specs.Assignment.{partial_truth}
use Rattle.scut_base.proofs.Tracking.{count_below, none_under}
use Rattle.scut_base.proofs.Lists.{All-prefix, All-last, AllPairs-prefix, AllPairs-last}
use Rattle.clause_prop.specs.Steps.{AreSteps, IsPlaceOf, TrailValue, assigned, partial, with_step, with_true}
use Rattle.clause_prop.specs.Tables.{AreTables}
use Rattle.clause_prop.specs.declared.step.Step.{Step}
use Rattle.clause_prop.proofs.Assigned.{Values, index, length-assigned, assigned-push, assigned-at, assigned-none, assigned-found}

-- the place of a variable that has a value
pub place_found : (values : Values) (places : List ℕ) (steps : List Step) (count var : ℕ) (b : Bool) (s : Step) (o : Option Bool) (n : ℕ) → AreTables values places steps count → 0 < var → var ≤ length values
    → get_or values (var - 1) o ≡ Some b → IsPlaceOf (take count steps) var (get_or places (var - 1) n)
place_found values places steps count var b s o n are from_one within is =
    let told : get_or (assigned (length values) (take count steps)) (var - 1) None ≡ Some b
    = ap (λ (v : Values). get_or v (var - 1) None) (sym are.told) ∙ get_or_default values (var - 1) None o (omega arith) ∙ is in
    let found = assigned-found (length values) (take count steps) (var - 1) b s told in
    let k = found.0 in
    let short : k < length (take count steps) = found.1 in
    let below : k < count = omega (arith, short, length-take count steps) in
    let same : get_or (take count steps) k s ≡ get_or steps k s = get_or-take count steps k s below in
    let own : get_or places ((get_or steps k s).lit.var - 1) 0 ≡ k = are.found k s below in
    let at : (get_or steps k s).lit.var - 1 ≡ var - 1 = ap index (sym same) ∙ found.2 in
    let place : get_or places (var - 1) n ≡ k = get_or_default places (var - 1) n 0 (omega (arith, are.placed)) ∙ ap (λ (i : ℕ). get_or places i 0) (sym at) ∙ own in
    let one = are.are.within k s short in
    subst (IsPlaceOf (take count steps) var) (sym place)
    (record { step = get_or (take count steps) k s; there = slice_get-get_or (take count steps) k s short; is = omega (arith, one.0, found.2, from_one) })

-- ---- a step more

-- one more is set
count_set : (values : Values) (i : ℕ) (b : Bool) → i < length values → get_or values i None ≡ None → count_by is_some (set values i (Some b)) ≡ count_by is_some values + 1
count_set values i b short none =
    let sums = sum_by-set (λ x. cond (is_some x) 1 0) values i (Some b) None short in
    let zero_there : cond (is_some (get_or values i None)) 1 0 ≡ zero = ap (λ (x : Option Bool). cond (is_some x) 1 zero) none in
    omega arith

-- a variable that is open is that of no step
open_apart : (n : ℕ) (steps : List Step) (s : Step) → AreSteps n steps → get_or (assigned n steps) (index s) None ≡ None → All (λ r. r.lit.var ≢ s.lit.var) steps
open_apart n steps s are none k d short same =
    none-some (not (get_or steps k d).lit.neg) (sym none ∙ ap (λ (v : ℕ). get_or (assigned n steps) (v - 1) None) (sym same) ∙ assigned-at n steps k d are short)

steps_pushed : (n : ℕ) (steps : List Step) (s : Step) → AreSteps n steps → 0 < s.lit.var → s.lit.var ≤ n → get_or (assigned n steps) (index s) None ≡ None → AreSteps n (steps ++ s ∷ [])
steps_pushed n steps s are from_one within none = record {
  within = All-push (λ r. (0 < r.lit.var) × (r.lit.var ≤ n)) steps s are.within (from_one, within);
  apart = all_pairs_push (λ r t. r.lit.var ≢ t.lit.var) steps s are.apart (open_apart n steps s are none);
}

take_set : (steps : List Step) (count : ℕ) (s : Step) → count < length steps → take (count + 1) (set steps count s) ≡ take count steps ++ s ∷ []
take_set steps count s short =
    let own : slice_get (set steps count s) count ≡ Some s = slice_get-get_or (set steps count s) count s (omega (arith, short, length-set steps count s)) ∙ ap Some (get_or-set_same steps count s s short) in
    take_place (set steps count s) count s own ∙ ap (λ (ss : List Step). ss ++ s ∷ []) (take-set steps count s)

pub tables_pushed : (values : Values) (places : List ℕ) (steps : List Step) (count : ℕ) (s : Step) → AreTables values places steps count → 0 < s.lit.var → s.lit.var ≤ length values → get_or values (index s) None ≡ None
    → AreTables (set values (index s) (Some (not s.lit.neg))) (set places (index s) count) (set steps count s) (count + 1)
tables_pushed values places steps count s are from_one within none = record {
  room = omega (arith, are.room, long, length-set steps count s);
  placed = omega (arith, are.placed, long, length-set places (index s) count);
  counted = omega (arith, are.counted, count_set values (index s) (not s.lit.neg) inside none);
  are = subst (λ (n : ℕ). AreSteps n (take (count + 1) (set steps count s))) (sym long) (subst (AreSteps (length values)) (sym front) (steps_pushed (length values) (take count steps) s are.are from_one within open'));
  told = ap (λ (v : Values). with_true v s) are.told ∙ sym (assigned-push (length values) (take count steps) s) ∙ ap (assigned (length values)) (sym front) ∙ ap (λ (n : ℕ). assigned n (take (count + 1) (set steps count s))) (sym long);
  found = λ k d less. ⊎_elim (here k d) (there k d less) (cases_eq k count);
}
  where
    inside : index s < length values
    inside = omega (arith, from_one, within)

    long : length (set values (index s) (Some (not s.lit.neg))) ≡ length values
    long = length-set values (index s) (Some (not s.lit.neg))

    short : count < length steps
    short = omega (arith, are.counted, count_below values (index s) inside none, are.room)

    front : take (count + 1) (set steps count s) ≡ take count steps ++ s ∷ []
    front = take_set steps count s short

    open' : get_or (assigned (length values) (take count steps)) (index s) None ≡ None
    open' = ap (λ (v : Values). get_or v (index s) None) (sym are.told) ∙ none

    here : (k : ℕ) (d : Step) → k ≡ count → get_or (set places (index s) count) (index (get_or (set steps count s) k d)) 0 ≡ k
    here k d e =
        let own : get_or (set steps count s) k d ≡ s = ap (λ (j : ℕ). get_or (set steps count s) j d) e ∙ get_or-set_same steps count s d short in
        ap (λ (t : Step). get_or (set places (index s) count) (index t) 0) own ∙ get_or-set_same places (index s) count 0 (omega (arith, inside, are.placed)) ∙ sym e

    there : (k : ℕ) (d : Step) → k < count + 1 → k ≢ count → get_or (set places (index s) count) (index (get_or (set steps count s) k d)) 0 ≡ k
    there k d less ne =
        let before : k < count = omega (arith, less, ne) in
        let same : get_or (set steps count s) k d ≡ get_or steps k d = get_or-set_other steps count k s d ne in
        let first : get_or (take count steps) k d ≡ get_or steps k d = get_or-take count steps k d before in
        let inner : k < length (take count steps) = omega (arith, length-take count steps, before, short) in
        let apart = open_apart (length values) (take count steps) s are.are open' k d inner in
        let one = are.are.within k d inner in
        let other : index (get_or steps k d) ≢ index s = λ (e : index (get_or steps k d) ≡ index s). apart (omega (arith, one.0, from_one, e, ap index first)) in
        ap (λ (t : Step). get_or (set places (index s) count) (index t) 0) same ∙ get_or-set_other places (index s) (index (get_or steps k d)) count 0 other ∙ are.found k d before

-- ---- a step less

-- the last step of some, and those before it
last_step : (n : ℕ) (steps : List Step) (s : Step) → AreSteps n (steps ++ s ∷ []) → AreSteps n steps × (get_or (assigned n steps) (index s) None ≡ None) × (index s < n)
last_step n steps s are =
    let before : AreSteps n steps = record { within = All-prefix (λ r. (0 < r.lit.var) × (r.lit.var ≤ n)) steps s are.within; apart = AllPairs-prefix (λ r t. r.lit.var ≢ t.lit.var) steps s are.apart } in
    let own = All-last (λ r. (0 < r.lit.var) × (r.lit.var ≤ n)) steps s are.within in (
      before,
      assigned-none n steps (index s) (λ k d short e. AllPairs-last (λ r t. r.lit.var ≢ t.lit.var) steps s are.apart k d short
          (let one = before.within k d short in omega (arith, one.0, own.0, e))),
      omega (arith, own.0, own.1),
    )

pub tables_popped : (values : Values) (places : List ℕ) (steps : List Step) (count : ℕ) (d : Step) → AreTables values places steps (count + 1) → AreTables (set values (index (get_or steps count d)) None) places steps count
tables_popped values places steps count d are = record {
  room = omega (arith, long, are.room);
  placed = omega (arith, long, are.placed);
  counted = omega (arith, are.counted, ap (count_by is_some) now, ap (count_by is_some) was, count_set p (index s) (not s.lit.neg) (omega (arith, last.2, wide)) last.1);
  are = subst (λ (n : ℕ). AreSteps n (take count steps)) (sym long) last.0;
  told = now ∙ ap (λ (n : ℕ). assigned n (take count steps)) (sym long);
  found = λ k e less. are.found k e (omega (arith, less));
}
  where
    s : Step
    s = get_or steps count d

    p : Values
    p = assigned (length values) (take count steps)

    wide : length p ≡ length values
    wide = length-assigned (length values) (take count steps)

    short : count < length steps
    short = omega (arith, are.counted, count_by-le-length is_some values, are.room)

    front : take (count + 1) steps ≡ take count steps ++ s ∷ []
    front = take_place steps count s (slice_get-get_or steps count d short)

    last : AreSteps (length values) (take count steps) × (get_or p (index s) None ≡ None) × (index s < length values)
    last = last_step (length values) (take count steps) s (subst (AreSteps (length values)) front are.are)

    was : values ≡ set p (index s) (Some (not s.lit.neg))
    was = are.told ∙ ap (assigned (length values)) front ∙ assigned-push (length values) (take count steps) s

    now : set values (index s) None ≡ p
    now = ap (λ (v : Values). set v (index s) None) was ∙ set-set p (index s) (Some (not s.lit.neg)) None ∙ ap (λ (o : Option Bool). set p (index s) o) (sym last.1) ∙ set-get_or p (index s) None

    long : length (set values (index s) None) ≡ length values
    long = length-set values (index s) None

-- a literal that is open has no value in the table
pub value_open : (values : Values) (places : List ℕ) (steps : List Step) (count : ℕ) (t : TrailValue) (l : Literal) → AreTables values places steps count → record { vars = length values; steps = take count steps } ≡ t → partial_truth (partial t) l ≡ None → get_or values (l.var - 1) None ≡ None
value_open values places steps count t l are is open' =
    let same : values ≡ partial t = are.told ∙ ap partial is in
    ap (λ (v : Values). get_or v (l.var - 1) None) same ∙ none_under (λ b. if l.neg then not b else b) _ open'

pub pushed_view : (values : Values) (places : List ℕ) (steps : List Step) (count i : ℕ) (o : Option Bool) (s : Step) (t : TrailValue) → AreTables values places steps count → i < length values → get_or values i None ≡ None
    → record { vars = length values; steps = take count steps } ≡ t → record { vars = length (set values i o); steps = take (count + 1) (set steps count s) } ≡ with_step t s
pushed_view values places steps count i o s t are inside none is =
    let short : count < length steps = omega (arith, are.counted, count_below values i inside none, are.room) in
    ap (λ (n : ℕ). record { vars = n; steps = take (count + 1) (set steps count s) }) (length-set values i o)
    ∙ ap (λ (ss : List Step). record { vars = length values; steps = ss }) (take_set steps count s short)
    ∙ ap (λ (u : TrailValue). with_step u s) is

-- ---- more variables

-- steps in the first part change nothing in the second
from_longer : (p q : Values) (steps : List Step) → All (λ s. index s < length p) steps → fold with_true (p ++ q) steps ≡ fold with_true p steps ++ q
from_longer p q [] within = refl
from_longer p q (s ∷ steps) within =
    let own : index s < length p = All-head (λ r. index r < length p) s steps within in
    ap (λ (v : Values). fold with_true v steps) (set-append_left p q (index s) (Some (not s.lit.neg)) own)
    ∙ from_longer (with_true p s) q steps (λ k d short. let one = All-tail (λ r. index r < length p) s steps within k d short in omega (arith, one, length-set p (index s) (Some (not s.lit.neg))))

assigned-longer : (n m : ℕ) (steps : List Step) → AreSteps n steps → assigned (n + m) steps ≡ assigned n steps ++ replicate m None
assigned-longer n m steps are =
    ap (λ (v : Values). fold with_true v steps) (sym (replicate-append-replicate {A = Option Bool} n m None))
    ∙ from_longer (replicate n None) (replicate m None) steps (λ k d short. let one = are.within k d short in omega (arith, one.0, one.1, length-replicate {A = Option Bool} n None))

-- longer lists with the same elements in front
pub tables_longer : (values : Values) (places more_places : List ℕ) (steps more_steps : List Step) (count : ℕ) → AreTables values places steps count → take (length places) more_places ≡ places → take (length steps) more_steps ≡ steps → AreTables values more_places more_steps count
tables_longer values places more_places steps more_steps count are same_places same_steps = record {
  room = omega (arith, are.room, ap length same_steps, length-take (length steps) more_steps);
  placed = omega (arith, are.placed, ap length same_places, length-take (length places) more_places);
  counted = are.counted;
  are = subst (AreSteps (length values)) (sym front) are.are;
  told = are.told ∙ ap (assigned (length values)) (sym front);
  found = λ k d less.
      let short : k < length steps = omega (arith, less, count_short) in
      let step : get_or more_steps k d ≡ get_or steps k d = sym (get_or-take (length steps) more_steps k d short) ∙ ap (λ (ss : List Step). get_or ss k d) same_steps in
      let inner : k < length (take count steps) = omega (arith, less, length-take count steps, count_short) in
      let one = are.are.within k d inner in
      let first = ap index (get_or-take count steps k d less) in
      let at : index (get_or steps k d) < length places = omega (arith, one.0, one.1, first, are.placed) in
      ap (λ (s : Step). get_or more_places (index s) 0) step
      ∙ sym (get_or-take (length places) more_places (index (get_or steps k d)) 0 at) ∙ ap (λ (ps : List ℕ). get_or ps (index (get_or steps k d)) 0) same_places ∙ are.found k d less;
}
  where
    count_short : count ≤ length steps
    count_short = omega (arith, are.counted, count_by-le-length is_some values, are.room)

    front : take count more_steps ≡ take count steps
    front = sym (take-take count (length steps) more_steps count_short) ∙ ap (take count) same_steps

pub tables_grown : (values : Values) (places : List ℕ) (steps : List Step) (count m : ℕ) → AreTables values places steps count → length values + m ≤ length places → length values + m ≤ length steps → AreTables (values ++ replicate m None) places steps count
tables_grown values places steps count m are placed room = record {
  room = omega (arith, long, room);
  placed = omega (arith, long, placed);
  counted = omega (arith, are.counted, sum_by-append (λ x. cond (is_some x) 1 0) values (replicate m None), sum_by-replicate {X = Option Bool} (λ x. cond (is_some x) 1 0) m None);
  are = record { within = λ k d short. let one = are.are.within k d short in (one.0, omega (arith, one.1, long)); apart = are.are.apart };
  told = ap (λ (v : Values). v ++ replicate m None) are.told ∙ sym (assigned-longer (length values) m (take count steps) are.are) ∙ ap (λ (n : ℕ). assigned n (take count steps)) (sym long);
  found = are.found;
}
  where
    long : length (values ++ replicate m None) ≡ length values + m
    long = length-append values (replicate m None) ∙ ap (λ (n : ℕ). length values + n) (length-replicate {A = Option Bool} m None)

-- each table longer by so much as it lacks
pub tables_up_to : (values : Values) (places : List ℕ) (steps : List Step) (count n place : ℕ) (step : Step) → AreTables values places steps count → length values < n
    → AreTables (values ++ replicate (n - length values) None) (places ++ replicate (n - length places) place) (steps ++ replicate (n - length steps) step) count
tables_up_to values places steps count n place step are more =
    tables_grown values _ _ count (n - length values)
    (tables_longer values places _ steps _ count are (take-append_seam places (replicate (n - length places) place)) (take-append_seam steps (replicate (n - length steps) step)))
    (omega (arith, more, length-append places (replicate (n - length places) place), length-replicate (n - length places) place))
    (omega (arith, more, length-append steps (replicate (n - length steps) step), length-replicate (n - length steps) step))
