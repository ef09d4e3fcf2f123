-- A board after a pair was put onto it.
use Rattle.std.proofs.Common.{◌≡◌, None, Some, Bool, true, false, not, List, [], ◌∷◌, ◌++◌, take, refl, sym, ap, subst, ◌∙◌, ℤ}
use Rattle.std.specs.List.{All, Contains, last_or}
use Rattle.std.proofs.lemmas.List.Elements.{All-filter, All-push, All-weaker, Contains-append_left, Contains-push}
use Rattle.front_set.specs.Vector.{IsBelow, is_below}
use Rattle.front_set.specs.Front.{AreIncomparable, IsInserted, not_above}
use Rattle.front_set.specs.declared.entry.Entry.{Entry}
use Rattle.front_set.specs.declared.set.Inserted.{Inserted}
use Rattle.front_set.specs.declared.set.Inserted.TheVariants.{Covered, Added}
use Rattle.front_set.proofs.FrontLaws.{IsBelow-refl, IsBelow-trans}
use Rattle.front_set.proofs.Minimal.{incomparable_more}
use Rattle.scut_base.proofs.Lists.{Contains-filter, fails_from_no_place, passes_from_place}
use Rattle.instance.specs.Shape.{InstanceValue}
use Rattle.instance_normal.specs.NormalForm.{IsNormalFormOf}
use Rattle.pb_lin.specs.Problem.{ProblemValue}
use Rattle.search_base.specs.Boards.{BoardValue, IsBoard, IsModelPair}
use Rattle.search_base.specs.Cutting.{IsPut}

-- some entry is below v
abbrev pub HasBelow : List Entry → List ℤ → Type 0
HasBelow entries v = (e : Entry) × Contains entries e × IsBelow e.costs v

apart_after : (old new : List Entry) (p : Entry) (done : Inserted) → IsInserted old new p done → AreIncomparable old →
    AreIncomparable new
apart_after old new p (Covered by) is apart = subst AreIncomparable (sym is.1) apart
apart_after old new p (Added removed) is apart =
    subst AreIncomparable (sym is.1)
    (incomparable_more old p (fails_from_no_place (λ e. is_below e.costs p.costs) 0 old is.0) apart)

all_after : (P : Entry → Type 0) (old new : List Entry) (p : Entry) (done : Inserted) → IsInserted old new p done →
    P p → All P old → All P new
all_after P old new p (Covered by) is here all = subst (All P) (sym is.1) all
all_after P old new p (Added removed) is here all =
    subst (All P) (sym is.1)
    (All-push P (not_above p.costs old) p (All-filter (λ e. not (is_below p.costs e.costs)) P old all) here)

below_after : (old new : List Entry) (p : Entry) (done : Inserted) → IsInserted old new p done → (v : List ℤ) →
    HasBelow old v → HasBelow new v
below_after old new p (Covered by) is v has = subst (λ (es : List Entry). HasBelow es v) (sym is.1) has
below_after old new p (Added removed) is v (e, there, below) =
    subst (λ (es : List Entry). HasBelow es v) (sym is.1) (by (is_below p.costs e.costs) refl)
  where
    by : (b : Bool) → is_below p.costs e.costs ≡ b → HasBelow (not_above p.costs old ++ p ∷ []) v
    by true under = (p, Contains-push (not_above p.costs old) p, IsBelow-trans p.costs e.costs v under below)
    by false apart = (
      e,
      Contains-append_left (not_above p.costs old) (p ∷ []) e
          (Contains-filter (λ f. not (is_below p.costs f.costs)) old e there (ap not apart)),
      below,
    )

own_below : (old new : List Entry) (p : Entry) (done : Inserted) → IsInserted old new p done → HasBelow new p.costs
own_below old new p (Covered by) is =
    subst (λ (es : List Entry). HasBelow es p.costs) (sym is.1)
    (passes_from_place (λ e. is_below e.costs p.costs) 0 by old is.0)
own_below old new p (Added removed) is =
    subst (λ (es : List Entry). HasBelow es p.costs) (sym is.1)
    (p, Contains-push (not_above p.costs old) p, IsBelow-refl p.costs)

-- the last one of some and one more
pub last_of_more : (vectors : List (List ℤ)) (v : List ℤ) → last_or None (vectors ++ v ∷ []) ≡ Some v
last_of_more [] v = refl
last_of_more (u ∷ []) v = refl
last_of_more (u ∷ w ∷ vectors) v = last_of_more (w ∷ vectors) v

-- its costs are logged besides
pub put_board : (old new : BoardValue) (costs : List ℤ) (x : List Bool) (vectors : List (List ℤ)) →
    IsPut old new costs x → IsModelPair old.instance (record { costs = costs; model = take old.instance.vars x }) →
    IsBoard old vectors → IsBoard new (vectors ++ costs ∷ [])
put_board old new costs x vectors put pair board =
    let p : Entry = record { costs = costs; model = take old.instance.vars x } in
    record {
      normal = subst (λ (i : InstanceValue). IsNormalFormOf i new.problem) (sym put.instance)
          (subst (λ (q : ProblemValue). IsNormalFormOf old.instance q) (sym put.problem) board.normal);
      models = subst (λ (i : InstanceValue). All (IsModelPair i) new.entries) (sym put.instance)
          (all_after (IsModelPair old.instance) old.entries new.entries p put.done put.inserted pair board.models);
      apart = apart_after old.entries new.entries p put.done put.inserted board.apart;
      last = put.last ∙ sym (last_of_more vectors costs);
      below = All-push (HasBelow new.entries) vectors costs
          (All-weaker (HasBelow old.entries) (HasBelow new.entries)
          (below_after old.entries new.entries p put.done put.inserted) vectors board.below)
          (own_below old.entries new.entries p put.done put.inserted);
    }
