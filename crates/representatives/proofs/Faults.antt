-- What is wrong first with the models of an entry.
use Rattle.std.specs.Prelude.{◌≡◌, ◌≢◌, ◌⊎◌, ◌<◌, ◌≤◌, ℕ, Bool, true, false, MatchBool, List, [], ◌∷◌, ◌++◌, length, ℤ, All, Contains, refl}
use Rattle.std.proofs.Common.{sym, ◌∙◌, ap, subst, inl, inr, ⊎_elim, get_or, arith}
use Rattle.std.proofs.lemmas.Bool.{cases_order}
use Rattle.std.proofs.lemmas.List.{get_or_append_left, get_or_at}
use Rattle.std.proofs.lemmas.List.Elements.{All-head}
use Rattle.scut_base.proofs.Lists.{head_same, tail_same}
use Rattle.instance.specs.Shape.{InstanceValue}
use Rattle.instance_normal.proofs.Members.{all_split}
use Rattle.front_text.specs.declared.reps.Reps.{Reps}
use Rattle.representatives.specs.Judged.{HasWrongCount, HasWrongModel, IsModelFault, IsRepsFault}
use Rattle.representatives.specs.Laws.{NoFaultWhereServing, OneRepsFault}
use Rattle.representatives.specs.Representatives.{AreDifferent, Serves}
use Rattle.representatives.specs.declared.fault.RepsWhy.{RepsWhy}
use Rattle.representatives.specs.declared.fault.RepsWhy.TheVariants.{Syntax, Count, NotModel, Costs, Repeated, Log}

-- ---- lists that are cut at a place

-- none before the place is the one there
apart_before : (before after : List (List Bool)) (a : List Bool) → AreDifferent (before ++ a ∷ after) → Contains before a → ⊥
apart_before before after a different (k, within, is) =
    let here : get_or (before ++ a ∷ after) k a ≡ a = get_or_append_left before (a ∷ after) a k within ∙ is in
    let there : get_or (before ++ a ∷ after) (length before) a ≡ a = get_or_at before a after a (length before) (omega arith) in
    different k (length before) a within (shorter before) (here ∙ sym there)
  where
    shorter : (xs : List (List Bool)) → length xs < length (xs ++ a ∷ after)
    shorter [] = omega arith
    shorter (x ∷ xs) = let rest = shorter xs in omega arith

-- what is cut at the same place has the same parts
same_cut : (xs ys ps qs : List (List Bool)) (x y : List Bool) → xs ++ x ∷ ps ≡ ys ++ y ∷ qs → length xs ≡ length ys → (xs ≡ ys) × (x ≡ y)
same_cut [] [] ps qs x y same long = (refl, head_same x y ps qs same)
same_cut [] (w ∷ ys) ps qs x y same long = absurd (omega arith)
same_cut (z ∷ xs) [] ps qs x y same long = absurd (omega arith)
same_cut (z ∷ xs) (w ∷ ys) ps qs x y same long =
    let rest = same_cut xs ys ps qs x y (tail_same z w (xs ++ x ∷ ps) (ys ++ y ∷ qs) same) (omega arith) in
    (ap (λ (t : List Bool). t ∷ xs) (head_same z w (xs ++ x ∷ ps) (ys ++ y ∷ qs) same) ∙ ap (λ (ts : List (List Bool)). w ∷ ts) rest.0, rest.1)

-- what is cut at a later place has the earlier one in its first part
earlier_cut : (xs ys ps qs : List (List Bool)) (x y : List Bool) → xs ++ x ∷ ps ≡ ys ++ y ∷ qs → length xs < length ys → (rest : List (List Bool)) × (ys ≡ xs ++ x ∷ rest)
earlier_cut xs [] ps qs x y same less = absurd (omega arith)
earlier_cut [] (w ∷ ys) ps qs x y same less = (ys, ap (λ (t : List Bool). t ∷ ys) (sym (head_same x w ps (ys ++ y ∷ qs) same)))
earlier_cut (z ∷ xs) (w ∷ ys) ps qs x y same less =
    let rest = earlier_cut xs ys ps qs x y (tail_same z w (xs ++ x ∷ ps) (ys ++ y ∷ qs) same) (omega arith) in
    (rest.0, ap (λ (t : List Bool). t ∷ ys) (sym (head_same z w (xs ++ x ∷ ps) (ys ++ y ∷ qs) same)) ∙ ap (λ (ts : List (List Bool)). z ∷ ts) rest.1)

module _ (i : InstanceValue) (v : List ℤ) where
  -- ---- one model

  -- nothing is wrong with a model that serves the vector and is new
  no_model_fault : (before : List (List Bool)) (a : List Bool) (why : RepsWhy) → Serves i v a → (Contains before a → ⊥) → IsModelFault i v before a why → ⊥
  no_model_fault before a Syntax serves fresh wrong = wrong
  no_model_fault before a Count serves fresh wrong = wrong
  no_model_fault before a NotModel serves fresh wrong = wrong serves.model
  no_model_fault before a Costs serves fresh wrong = wrong.1 serves.costs
  no_model_fault before a Repeated serves fresh wrong = fresh wrong.1
  no_model_fault before a (Log line why) serves fresh wrong = wrong

  one_model_fault : (before : List (List Bool)) (a : List Bool) (why other : RepsWhy) → IsModelFault i v before a why → IsModelFault i v before a other → why ≡ other
  one_model_fault before a Syntax other first second = absurd first
  one_model_fault before a Count other first second = absurd first
  one_model_fault before a (Log line why) other first second = absurd first
  one_model_fault before a NotModel Syntax first second = absurd second
  one_model_fault before a NotModel Count first second = absurd second
  one_model_fault before a NotModel NotModel first second = refl
  one_model_fault before a NotModel Costs first second = absurd (first second.0)
  one_model_fault before a NotModel Repeated first second = absurd (first second.0.model)
  one_model_fault before a NotModel (Log line why) first second = absurd second
  one_model_fault before a Costs Syntax first second = absurd second
  one_model_fault before a Costs Count first second = absurd second
  one_model_fault before a Costs NotModel first second = absurd (second first.0)
  one_model_fault before a Costs Costs first second = refl
  one_model_fault before a Costs Repeated first second = absurd (first.1 second.0.costs)
  one_model_fault before a Costs (Log line why) first second = absurd second
  one_model_fault before a Repeated Syntax first second = absurd second
  one_model_fault before a Repeated Count first second = absurd second
  one_model_fault before a Repeated NotModel first second = absurd (second first.0.model)
  one_model_fault before a Repeated Costs first second = absurd (second.1 first.0.costs)
  one_model_fault before a Repeated Repeated first second = refl
  one_model_fault before a Repeated (Log line why) first second = absurd second

  -- ---- the models

  -- of different models that serve the vector none is wrong
  right_at : (before after : List (List Bool)) (a : List Bool) (why : RepsWhy) → All (Serves i v) (before ++ a ∷ after) → AreDifferent (before ++ a ∷ after) → IsModelFault i v before a why → ⊥
  right_at before after a why serve different wrong = no_model_fault before a why (All-head (Serves i v) a after (all_split (Serves i v) before (a ∷ after) serve).1) (apart_before before after a different) wrong

  no_wrong_model : (models : List (List Bool)) (why : RepsWhy) → All (Serves i v) models → AreDifferent models → HasWrongModel i v models why → ⊥
  no_wrong_model models why serve different wrong = right_at wrong.before wrong.after wrong.model why (subst (All (Serves i v)) wrong.is serve) (subst AreDifferent wrong.is different) wrong.wrong

  -- a model before the first wrong one is right
  not_earlier : (models : List (List Bool)) (why other : RepsWhy) → (first : HasWrongModel i v models why) → (second : HasWrongModel i v models other) → length first.before < length second.before → ⊥
  not_earlier models why other first second less =
      let cut = earlier_cut first.before second.before first.after second.after first.model second.model (sym first.is ∙ second.is) less in
      right_at first.before cut.0 first.model why (subst (All (Serves i v)) cut.1 second.serve) (subst AreDifferent cut.1 second.different) first.wrong

  one_wrong_model : (models : List (List Bool)) (why other : RepsWhy) → HasWrongModel i v models why → HasWrongModel i v models other → why ≡ other
  one_wrong_model models why other first second = ⊎_elim
      (λ (same : length first.before ≡ length second.before).
      let cut = same_cut first.before second.before first.after second.after first.model second.model (sym first.is ∙ second.is) same in
      one_model_fault second.before second.model why other (subst (λ (a : List Bool). IsModelFault i v second.before a why) cut.1 (subst (λ (xs : List (List Bool)). IsModelFault i v xs first.model why) cut.0 first.wrong)) second.wrong)
      (λ (o : (length first.before < length second.before) ⊎ (length second.before < length first.before)). absurd (⊎_elim (not_earlier models why other first second) (not_earlier models other why second first) o))
      (cases_order (length first.before) (length second.before))

-- ---- the whole

right_count : (all : Bool) (n k : ℕ) → MatchBool all (n < k) (n ≡ k) → MatchBool all (k ≤ n) (n ≢ k) → ⊥
right_count true n k right wrong = omega arith
right_count false n k right wrong = wrong right

-- what is wrong is the count, or a model
fault_cases : (i : InstanceValue) (v : List ℤ) (k : ℕ) (r : Reps) (why : RepsWhy) → IsRepsFault i v k r why → ((why ≡ Count) × HasWrongCount k r) ⊎ ((HasWrongCount k r → ⊥) × HasWrongModel i v r.models why)
fault_cases i v k r Syntax fault = inr fault
fault_cases i v k r Count fault = inl (refl, fault)
fault_cases i v k r NotModel fault = inr fault
fault_cases i v k r Costs fault = inr fault
fault_cases i v k r Repeated fault = inr fault
fault_cases i v k r (Log line reason) fault = inr fault

-- a wrong model is a fault where the count is right
pub model_is_fault : (i : InstanceValue) (v : List ℤ) (k : ℕ) (r : Reps) (why : RepsWhy) → (HasWrongCount k r → ⊥) → HasWrongModel i v r.models why → IsRepsFault i v k r why
model_is_fault i v k r Syntax right wrong = (right, wrong)
model_is_fault i v k r Count right wrong = absurd wrong.wrong
model_is_fault i v k r NotModel right wrong = (right, wrong)
model_is_fault i v k r Costs right wrong = (right, wrong)
model_is_fault i v k r Repeated right wrong = (right, wrong)
model_is_fault i v k r (Log line reason) right wrong = (right, wrong)

pub no_fault_law : NoFaultWhereServing
no_fault_law i v k r why serving fault = elim (fault_cases i v k r why fault) [
  | inl wrong ↦ right_count r.all (length r.models) k serving.count wrong.1
  | inr wrong ↦ no_wrong_model i v r.models why serving.serve serving.different wrong.1
]

pub one_fault_law : OneRepsFault
one_fault_law i v k r why other first second = elim (fault_cases i v k r why first) [
  | inl one ↦ elim (fault_cases i v k r other second) [
    | inl two ↦ one.0 ∙ sym two.0
    | inr two ↦ absurd (two.0 one.1)
  ]
  | inr one ↦ elim (fault_cases i v k r other second) [
    | inl two ↦ absurd (one.0 two.1)
    | inr two ↦ one_wrong_model i v r.models why other one.1 two.1
  ]
]
