-- The lines of hints, from the first hint on.
use Rattle.std.specs.Prelude.{◌≡◌, ℕ, ◌+◌, ◌<◌, ◌≤◌, Bool, Option, Some, None, List, [], ◌∷◌, length, All, cond, replicate, refl}
use Rattle.std.proofs.Common.{◌∙◌, ap, get_or, drop}
use Rattle.std.specs.Option.{is_none, option_map}
use Rattle.std.specs.List.{find}
use Rattle.std.proofs.Math.ListN.{drop_of_length-le}
use Rattle.std.proofs.lemmas.List.{drop_more}
use Rattle.std.proofs.lemmas.List.Elements.{All-nil, All-cons}
use Rattle.scut_base.proofs.Options.{if_some}
use Rattle.pb_lin.specs.Constraint.{ConstraintValue, Holds}
use Rattle.pb_lin.specs.Given.{Given, HoldsGiven, IsRefuted}
use Rattle.hint_rup.specs.declared.hint.Hint.{Hint}
use Rattle.hint_rup.specs.declared.hint.Hint.TheVariants.{Id, Negated, Denied}
use Rattle.hint_rup.specs.Propagation.{Conflicts}
use Rattle.hint_rup.proofs.Agreement.{not_all_hold, open_agrees}
use Rattle.hint_rup.specs.Hints.{line_of, id_of, before, named, unnamed}

before_holds : (a : List Bool) (o : Option ConstraintValue) (cs : List ConstraintValue) → ((c : ConstraintValue) → o ≡ Some c → Holds a c) → All (Holds a) cs → All (Holds a) (before o cs)
before_holds a None cs first rest = All-nil (Holds a)
before_holds a (Some c) cs first rest = All-cons (Holds a) c cs (first c refl) rest

module _ (given : Given) where
  -- a hint that names a line
  pub named_more : (hints : List Hint) (i : ℕ) (d : Hint) (c : ConstraintValue) → i < length hints → line_of given (get_or hints i d) ≡ Some c → named given (drop i hints) ≡ c ∷ named given (drop (i + 1) hints)
  unfolding named
  named_more hints i d c within line = ap (named given) (drop_more hints i d within) ∙ ap (λ o. before o (named given (drop (i + 1) hints))) line

  pub unnamed_more : (hints : List Hint) (i : ℕ) (d : Hint) (c : ConstraintValue) → i < length hints → line_of given (get_or hints i d) ≡ Some c → unnamed given (drop i hints) ≡ unnamed given (drop (i + 1) hints)
  unfolding unnamed
  unnamed_more hints i d c within line =
      ap (unnamed given) (drop_more hints i d within) ∙ ap (λ o. option_map id_of (cond (is_none o) (Some (get_or hints i d)) (find (λ g. is_none (line_of given g)) (drop (i + 1) hints)))) line

  -- one that names none
  pub named_stop : (hints : List Hint) (i : ℕ) (d : Hint) → i < length hints → line_of given (get_or hints i d) ≡ None → named given (drop i hints) ≡ []
  unfolding named
  named_stop hints i d within line = ap (named given) (drop_more hints i d within) ∙ ap (λ o. before o (named given (drop (i + 1) hints))) line

  pub unnamed_stop : (hints : List Hint) (i : ℕ) (d : Hint) → i < length hints → line_of given (get_or hints i d) ≡ None → unnamed given (drop i hints) ≡ Some (id_of (get_or hints i d))
  unfolding unnamed
  unnamed_stop hints i d within line =
      ap (unnamed given) (drop_more hints i d within) ∙ ap (λ o. option_map id_of (cond (is_none o) (Some (get_or hints i d)) (find (λ g. is_none (line_of given g)) (drop (i + 1) hints)))) line

  -- no hint
  pub named_end : (hints : List Hint) (i : ℕ) → length hints ≤ i → named given (drop i hints) ≡ []
  unfolding named
  named_end hints i past = ap (named given) (drop_of_length-le hints past)

  pub unnamed_end : (hints : List Hint) (i : ℕ) → length hints ≤ i → unnamed given (drop i hints) ≡ None
  unfolding unnamed
  unnamed_end hints i past = ap (unnamed given) (drop_of_length-le hints past)

  line_holds : (a : List Bool) → HoldsGiven a given → (h : Hint) (c : ConstraintValue) → line_of given h ≡ Some c → Holds a c
  line_holds a holds (Id id) c is = holds.lines id c is
  line_holds a holds Negated c is = if_some (Holds a) given.negated c holds.negated is
  line_holds a holds Denied c is = if_some (Holds a) given.denied c holds.denied is

  pub named_hold : (a : List Bool) → HoldsGiven a given → (hints : List Hint) → All (Holds a) (named given hints)
  unfolding named
  named_hold a holds [] = All-nil (Holds a)
  named_hold a holds (h ∷ hints) = before_holds a (line_of given h) (named given hints) (line_holds a holds h) (named_hold a holds hints)

  -- what was given can't all hold where there is a conflict
  pub refuted : (n : ℕ) (first : ConstraintValue) (hints : List Hint) → given.negated ≡ Some first → Conflicts (replicate n None) (first ∷ named given hints) → IsRefuted given
  refuted n first hints is found a holds =
      not_all_hold (replicate n None) a (first ∷ named given hints) (open_agrees n a) (All-cons (Holds a) first (named given hints) (if_some (Holds a) given.negated first holds.negated is) (named_hold a holds hints)) found
