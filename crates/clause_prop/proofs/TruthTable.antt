-- The table of truths by literals, as values come and go.
use Rattle.std.proofs.Common.{◌≡◌, ◌≢◌, ◌⊎◌, ℕ, ◌+◌, ◌*◌, ◌-◌, ◌<◌, ◌≤◌, ◌++◌, Bool, true, false, not, inl, inr, List, length, take, get_or, set, replicate, Option, None, Some, cond, refl, arith, ap, sym, ◌∙◌, subst, length-set, get_or-set_same, get_or-set_other, get_or-take, length-take}
use Rattle.std.specs.Prelude.{if◌then◌else◌, option_map}
use Rattle.std.proofs.lemmas.List.{length-replicate, length-append, get_or_append_left, get_or-append_right, get_or-replicate, get_or_past, get_or_default}
use Rattle.std.proofs.lemmas.Bool.{cases_eq, cases_lt}
use Rattle.std.proofs.lemmas.List.Sums.{count_by-le-length}
use Rattle.std.proofs.lemmas.List.Folds.{sum_by-replicate}
use Rattle.std.proofs.Math.Seq.{take-append_seam}
use Rattle.std.specs.Option.{is_some}
use Rattle.scut_base.specs.Literal.{Literal}
use Rattle.scut_base.specs.LiteralCode.{code_of}
use Rattle.scut_base.specs.Assignment.{partial_truth}
use Rattle.pb_lin.specs.Constraint.{opposite}
use Rattle.clause_prop.specs.Truths.{AreTruths, truth_of}
use Rattle.clause_prop.specs.declared.truth.Truth.{Truth}
use Rattle.clause_prop.specs.declared.truth.Truth.TheVariants.{Open, True, False}
use Rattle.clause_prop.specs.declared.step.Step.{Step}
use Rattle.clause_prop.specs.Steps.{TrailValue, partial}
use Rattle.clause_prop.specs.Tables.{AreTables}
use Rattle.clause_prop.proofs.Assigned.{Values}
use Rattle.clause_prop.proofs.Tables.{tables_longer}

-- the truth of a literal whose variable has this value
abbrev pub signed : Literal → Option Bool → Option Bool
signed l o = option_map (λ b. if l.neg then not b else b) o

-- Codes of literals.

bits : (n : ℕ) (s : Bool) → (n ≤ n + (if s then 1 else 0)) × (n + (if s then 1 else 0) ≤ n + 1)
bits n true = (omega arith, omega arith)
bits n false = (omega arith, omega arith)

bits_apart : (n : ℕ) (s : Bool) → n + (if s then 1 else 0) ≢ n + (if not s then 1 else 0)
bits_apart n true = λ e. absurd (omega (arith, e))
bits_apart n false = λ e. absurd (omega (arith, e))

code_near : (l : Literal) → (2 * l.var ≤ code_of l) × (code_of l ≤ 2 * l.var + 1)
code_near l = bits (2 * l.var) l.neg

code_apart : (l m : Literal) → l.var ≢ m.var → code_of l ≢ code_of m
code_apart l m apart same = (let a = code_near l in let b = code_near m in absurd (apart (omega (arith, a.0, a.1, b.0, b.1, same))))

-- a literal of these parts
abbrev of_parts : ℕ → Bool → Literal
of_parts v s = record { var = v; neg = s }

either_sign : (v : ℕ) (s t : Bool) → (of_parts v s ≡ of_parts v t) ⊎ (of_parts v s ≡ of_parts v (not t))
either_sign v true true = inl refl
either_sign v true false = inr refl
either_sign v false true = inr refl
either_sign v false false = inl refl

-- literals of one variable
one_variable : (l m : Literal) → l.var ≡ m.var → (l ≡ m) ⊎ (l ≡ opposite m)
one_variable l m same = elim (either_sign l.var l.neg m.neg) [
  | inl e ↦ inl (e ∙ ap (λ (v : ℕ). of_parts v m.neg) same)
  | inr e ↦ inr (e ∙ ap (λ (v : ℕ). of_parts v (not m.neg)) same)
]

-- A variable's value.

pub truths_set : (values : Values) (truths : List Truth) (m : Literal) (o : Option Bool) (own other : Truth) → AreTruths values truths → 0 < m.var → m.var ≤ length values → own ≡ truth_of (signed m o) → other ≡ truth_of (signed (opposite m) o)
    → AreTruths (set values (m.var - 1) o) (set (set truths (code_of m) own) (code_of (opposite m)) other)
truths_set values truths m o own other are from_one within is_own is_other =
    let a = code_of m in
    let b = code_of (opposite m) in
    let one = set truths a own in
    let near_a = code_near m in
    let near_b = code_near (opposite m) in
    let len_v : length (set values (m.var - 1) o) ≡ length values = length-set values (m.var - 1) o in
    let len_1 : length one ≡ length truths = length-set truths a own in
    let len_2 : length (set one b other) ≡ length one = length-set one b other in
    let a_in : a < length truths = omega (arith, near_a.1, are.room, within) in
    let b_in : b < length one = omega (arith, near_b.1, are.room, within, len_1) in
    let here : get_or (set values (m.var - 1) o) (m.var - 1) None ≡ o = get_or-set_same values (m.var - 1) o None (omega (arith, from_one, within)) in
    let at_a : get_or (set one b other) a Open ≡ own = get_or-set_other one b a other Open (bits_apart (2 * m.var) m.neg) ∙ get_or-set_same truths a own Open a_in in
    let at_b : get_or (set one b other) b Open ≡ other = get_or-set_same one b other Open b_in in
    record {
      room = omega (arith, are.room, len_v, len_1, len_2);
      told = λ l positive. elim (cases_eq l.var m.var) [
        | inl same ↦ elim (one_variable l m same) [
          | inl e ↦ subst (λ (x : Literal). get_or (set one b other) (code_of x) Open ≡ truth_of (partial_truth (set values (m.var - 1) o) x)) (sym e)
              (at_a ∙ is_own ∙ ap (λ (v : Option Bool). truth_of (signed m v)) (sym here))
          | inr e ↦ subst (λ (x : Literal). get_or (set one b other) (code_of x) Open ≡ truth_of (partial_truth (set values (m.var - 1) o) x)) (sym e)
              (at_b ∙ is_other ∙ ap (λ (v : Option Bool). truth_of (signed (opposite m) v)) (sym here))
        ]
        | inr n ↦
            let value : get_or (set values (m.var - 1) o) (l.var - 1) None ≡ get_or values (l.var - 1) None = get_or-set_other values (m.var - 1) (l.var - 1) o None (λ e. absurd (n (omega (arith, e, positive, from_one)))) in
            get_or-set_other one b (code_of l) other Open (code_apart l (opposite m) n)
            ∙ get_or-set_other truths a (code_of l) own Open (code_apart l m n)
            ∙ are.told l positive
            ∙ ap (λ (v : Option Bool). truth_of (signed l v)) (sym value)
      ];
    }

own_sign : (s : Bool) → True ≡ truth_of (Some (if s then not (not s) else not s))
own_sign true = refl
own_sign false = refl

other_sign : (s : Bool) → False ≡ truth_of (Some (if not s then not (not s) else not s))
other_sign true = refl
other_sign false = refl

-- it gets one
pub truths_pushed : (values : Values) (truths : List Truth) (m : Literal) → AreTruths values truths → 0 < m.var → m.var ≤ length values → AreTruths (set values (m.var - 1) (Some (not m.neg))) (set (set truths (code_of m) True) (code_of (opposite m)) False)
truths_pushed values truths m are from_one within = truths_set values truths m (Some (not m.neg)) True False are from_one within (own_sign m.neg) (other_sign m.neg)

-- it loses it
pub truths_popped : (values : Values) (truths : List Truth) (m : Literal) → AreTruths values truths → 0 < m.var → m.var ≤ length values → AreTruths (set values (m.var - 1) None) (set (set truths (code_of m) Open) (code_of (opposite m)) Open)
truths_popped values truths m are from_one within = truths_set values truths m None Open Open are from_one within refl refl

-- More variables.

-- what is put at the end of a list of values reads as what stands past its end
at_end : {X : Type 0} (d : X) (n k : ℕ) → get_or (replicate n d) k d ≡ d
at_end d n k = elim (cases_lt k n) [
  | inl h ↦ get_or-replicate n k d d h
  | inr h ↦ get_or_past (replicate n d) k d (omega (arith, h, length-replicate n d))
]

grown : {X : Type 0} (xs : List X) (d : X) (n k : ℕ) → get_or (xs ++ replicate n d) k d ≡ get_or xs k d
grown xs d n k = elim (cases_lt k (length xs)) [
  | inl h ↦ get_or_append_left xs (replicate n d) d k h
  | inr h ↦ get_or-append_right xs (replicate n d) (length xs) k d refl (omega (arith, h)) ∙ at_end d n (k - length xs) ∙ sym (get_or_past xs k d (omega (arith, h)))
]

pub truths_none : (n m : ℕ) → 2 * n + 2 ≤ m → AreTruths (replicate n None) (replicate m Open)
truths_none n m room = record {
  room = omega (arith, room, length-replicate {A = Option Bool} n None, length-replicate m Open);
  told = λ l _. at_end Open m (code_of l) ∙ ap (λ (v : Option Bool). truth_of (signed l v)) (sym (at_end {X = Option Bool} None n (l.var - 1)));
}

pub truths_longer : (values : Values) (truths : List Truth) (n : ℕ) → AreTruths values truths → AreTruths values (truths ++ replicate n Open)
truths_longer values truths n are = record {
  room = omega (arith, are.room, length-append truths (replicate n Open));
  told = λ l positive. grown truths Open n (code_of l) ∙ are.told l positive;
}

pub values_longer : (values : Values) (truths : List Truth) (n : ℕ) → 2 * (length values + n) + 2 ≤ length truths → AreTruths values truths → AreTruths (values ++ replicate n None) truths
values_longer values truths n room are = record {
  room = omega (arith, room, length-append values (replicate n None), length-replicate {A = Option Bool} n None);
  told = λ l positive. are.told l positive ∙ ap (λ (v : Option Bool). truth_of (signed l v)) (sym (grown {X = Option Bool} values None n (l.var - 1)));
}

pub truths_up_to : (values : Values) (truths : List Truth) (n m : ℕ) → AreTruths values truths → length values < n → m ≡ 2 * n + 2 → AreTruths (values ++ replicate (n - length values) None) (truths ++ replicate (m - length truths) Open)
truths_up_to values truths n m are more is =
    values_longer values (truths ++ replicate (m - length truths) Open) (n - length values) (omega (arith, more, is, length-append truths (replicate (m - length truths) Open), length-replicate (m - length truths) Open)) (truths_longer values truths (m - length truths) are)

-- the truth that the table tells
told_value : (values : Values) (truths : List Truth) (l : Literal) (d : Truth) (o : Option Bool) → AreTruths values truths → 0 < l.var → l.var ≤ length values → get_or truths (code_of l) d ≡ truth_of o → partial_truth values l ≡ o
told_value values truths l d o are positive upto is =
    let near = code_near l in
    one_value (partial_truth values l) o (sym (are.told l positive) ∙ get_or_default truths (code_of l) Open d (omega (arith, near.1, are.room, upto)) ∙ is)
  where
    one_value : (p q : Option Bool) → truth_of p ≡ truth_of q → p ≡ q
    one_value None None e = refl
    one_value None (Some true) e = cc
    one_value None (Some false) e = cc
    one_value (Some true) None e = cc
    one_value (Some true) (Some true) e = refl
    one_value (Some true) (Some false) e = cc
    one_value (Some false) None e = cc
    one_value (Some false) (Some true) e = cc
    one_value (Some false) (Some false) e = refl

pub value_told : (values : Values) (truths : List Truth) (places : List ℕ) (steps : List Step) (count : ℕ) (t : TrailValue) (l : Literal) (d : Truth) (o : Option Bool) → AreTables values places steps count × AreTruths values truths → record { vars = length values; steps = take count steps } ≡ t → 0 < l.var → l.var ≤ t.vars
    → get_or truths (code_of l) d ≡ truth_of o → o ≡ partial_truth (partial t) l
value_told values truths places steps count t l d o are view positive upto is =
    let same : values ≡ partial t = are.0.told ∙ ap partial view in
    sym (told_value values truths l d o are.1 positive (omega (arith, upto, ap (λ (u : TrailValue). u.vars) view)) is) ∙ ap (λ (v : Values). partial_truth v l) same

-- the step that goes is of a variable in the tables
pub last_within : (values : Values) (places : List ℕ) (steps : List Step) (count : ℕ) (d : Step) → AreTables values places steps (count + 1) → (get_or steps count d).lit.var ≤ length values
last_within values places steps count d are =
    let short : count < length steps = omega (arith, are.counted, count_by-le-length is_some values, are.room) in
    let inner : count < length (take (count + 1) steps) = omega (arith, length-take (count + 1) steps, short) in
    let one = are.are.within count d inner in
    omega (arith, one.1, ap (λ (s : Step). s.lit.var) (get_or-take (count + 1) steps count d (omega arith)))

-- room for more steps
pub tables_room : (values : Values) (places : List ℕ) (steps : List Step) (count n m place : ℕ) (step : Step) → AreTables values places steps count → AreTables values (places ++ replicate n place) (steps ++ replicate m step) count
tables_room values places steps count n m place step are = tables_longer values places _ steps _ count are (take-append_seam places (replicate n place)) (take-append_seam steps (replicate m step))

-- no step
pub tables_none : (n : ℕ) (places : List ℕ) (steps : List Step) → n ≤ length places → n ≤ length steps → AreTables (replicate n None) places steps 0
tables_none n places steps placed room = record {
  room = omega (arith, room, long);
  placed = omega (arith, placed, long);
  counted = omega (arith, sum_by-replicate {X = Option Bool} (λ x. cond (is_some x) 1 0) n None);
  are = record { within = λ k d short. absurd (omega (arith, short, length-take 0 steps)); apart = λ i k d below short. absurd (omega (arith, short, length-take 0 steps)) };
  told = ap (λ (m : ℕ). replicate m None) (sym long);
  found = λ k d less. absurd (omega (arith, less));
}
  where
    long : length (replicate {A = Option Bool} n None) ≡ n
    long = length-replicate {A = Option Bool} n None
