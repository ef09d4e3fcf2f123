-- A question, excess by excess.
use Rattle.std.proofs.Common.{◌≡◌, ℕ, ◌<◌, ◌≤◌, None, List, [], ◌∷◌, ◌++◌, length, get_or, ap, refl, sym, subst, ◌∙◌, ⊎_elim, arith, ℤ, pos, ◌+ℤ◌}
use Rattle.std.specs.List.{Contains}
use Rattle.std.proofs.lemmas.Bool.{cases_lt}
use Rattle.std.proofs.lemmas.List.{get_or_default, get_or_append_left, get_or_push, length_push}
use Rattle.std.proofs.lemmas.List.Elements.{All-nil, All-append, All-cons, All-contains, Contains-push, Contains-append_left}
use Rattle.scut_base.specs.Literal.{Literal}
use Rattle.pb_lin.specs.Constraint.{opposite}
use Rattle.pb_lin.specs.CostRow.{CostRowValue}
use Rattle.pb_lin.specs.Problem.{ProblemValue}
use Rattle.proof_laws.specs.State.{StateValue}
use Rattle.proof_laws.specs.Replay.{IsReplay}
use Rattle.proof_laws.specs.declared.line.Line.{Line}
use Rattle.proof_rules.specs.Recording.{Snapshot}
use Rattle.sum_outputs.specs.Adding.{Continues, IsReady}
use Rattle.totalizer.specs.Keeping.{KeepsOwn, OwnLinesStay}
use Rattle.totalizer.specs.declared.bound.Bound.{Bound}
use Rattle.totalizer.specs.declared.bound.Bound.TheVariants.{Always, Never, At}
use Rattle.search_base.specs.CostBounds.{IsCostBound}
use Rattle.search_base.specs.Laws.{TurnLinesJoin, TurnLinesKeepOwn}
use Rattle.search_base.proofs.RowStays.{cost_bound_stays}
use Rattle.relaxations.specs.Questions.{AddsDenial, AreExcesses, Denies, IsDenial, IsExcess, IsLimited, IsQuestion, IsRuledOut, IsUndeniable}
use Rattle.relaxations.proofs.Questions.{IsOf}

-- ---- excesses

pub no_excesses : (p : ProblemValue) (lines : List Line) (limits : List ℤ) → AreExcesses p lines limits []
no_excesses p lines limits = record {
  count = omega arith;
  each = λ i b short. absurd (omega arith);
  limited = λ i e b short. absurd (omega arith);
}

-- lines that keep what wasn't learned leave them so
pub excesses_later : OwnLinesStay → (p : ProblemValue) (old new : List Line) (s : StateValue) (limits : List ℤ)
    (bounds : List Bound) → KeepsOwn p old new → IsReplay p old s
    → AreExcesses p old limits bounds → AreExcesses p new limits bounds
excesses_later law p old new s limits bounds keeps reached excesses = record {
  count = excesses.count;
  each = λ i b short d e. cost_bound_stays law p old new s (get_or p.costs i d) (get_or limits i e +ℤ pos 1)
      (get_or bounds i b) keeps reached (excesses.each i b short d e);
  limited = excesses.limited;
}

module _ (p : ProblemValue) (lines : List Line) (limits : List ℤ) (bounds : List Bound) (bound : Bound)
    (excesses : AreExcesses p lines limits bounds) (short : length bounds < length limits)
    (here : IsExcess p lines limits (length bounds) bound)
    (limited : (e : ℤ) → IsLimited (get_or limits (length bounds) e) bound) where
  -- what holds at each place before, and at the last one
  each_more : (P : ℕ → Bound → Type 0) → ((i : ℕ) (b : Bound) → i < length bounds → P i (get_or bounds i b))
      → P (length bounds) bound
      → (i : ℕ) (b : Bound) → i < length (bounds ++ bound ∷ []) → P i (get_or (bounds ++ bound ∷ []) i b)
  each_more P before last i b inside = ⊎_elim
      (λ (less : i < length bounds). subst (P i) (sym (get_or_append_left bounds (bound ∷ []) b i less)) (before i b less))
      (λ (more : length bounds ≤ i).
      let long = length_push bounds bound in
      let is : length bounds ≡ i = omega arith in
      subst (P i) (sym (get_or_push bounds bound b i is)) (subst (λ (n : ℕ). P n bound) is last))
      (cases_lt i (length bounds))

  pub excesses_more : AreExcesses p lines limits (bounds ++ bound ∷ [])
  excesses_more = record {
    count = let long = length_push bounds bound in omega arith;
    each = each_more (IsExcess p lines limits) excesses.each here;
    limited = λ i e b inside.
        each_more (λ (n : ℕ) (c : Bound). IsLimited (get_or limits n e) c) (λ n c less. excesses.limited n e c less)
        (limited e) i b inside;
  }

-- ---- denials

pub denies_none : Denies [] []
denies_none = record {
  out = All-nil (IsRuledOut []);
  only = All-nil (IsOf []);
  apart = λ i j d before short. absurd (omega arith);
}

still_out : (old new : List Literal) (b : Bound) → ((m : Literal) → Contains old m → Contains new m)
    → IsRuledOut old b → IsRuledOut new b
still_out old new (Always id) stay out = out
still_out old new Never stay out = out
still_out old new (At l id) stay out = stay (opposite l) out

pub denies_more : (bounds : List Bound) (lits new : List Literal) (bound : Bound) → Denies bounds lits
    → AddsDenial lits new bound → Denies (bounds ++ bound ∷ []) new
denies_more bounds lits new bound denies adds = record {
  out = All-append (IsRuledOut new) bounds (bound ∷ [])
      (λ k d short. still_out lits new (get_or bounds k d) adds.stay (denies.out k d short))
      (All-cons (IsRuledOut new) bound [] adds.out (All-nil (IsRuledOut new)));
  only = λ k d short.
      let m = get_or new k d in
      ⊎_elim
      (λ (old : Contains lits m).
      let has = All-contains (IsOf bounds) lits m denies.only old in
      (has.0, Contains-append_left bounds (bound ∷ []) has.0 has.1, has.2))
      (λ (fresh : IsDenial bound m). (bound, Contains-push bounds bound, fresh))
      (adds.only m (k, short, get_or_default new k m d short));
  apart = adds.apart denies.apart;
}

-- ---- one objective more

-- a limit as the code reads it
module _ (a b : Snapshot) (limits items : List ℤ) (n : ℕ) (limit : ℤ)
    (same : items ≡ limits) (short : n < length limits) (is : limit ≡ get_or items n (pos 0)) where
  limit_read : (e : ℤ) → limit ≡ get_or limits n e
  limit_read e = is ∙ ap (λ (vs : List ℤ). get_or vs n (pos 0)) same ∙ get_or_default limits n (pos 0) e short

  module _ (bounds : List Bound) (lits : List Literal) (count : length bounds ≡ n)
      (law : OwnLinesStay) (join : TurnLinesJoin) (keep : TurnLinesKeepOwn) (ready : IsReady a) (on : Continues a b)
      (excesses : AreExcesses a.problem a.lines limits bounds) (denies : Denies bounds lits) (bound : Bound)
      (row : (d : CostRowValue)
      → IsCostBound b.problem b.lines (get_or a.problem.costs n d) (limit +ℤ pos 1) bound)
      (limited : IsLimited limit bound) where
    excess_at : IsExcess b.problem b.lines limits (length bounds) bound
    excess_at = subst (λ (k : ℕ). IsExcess b.problem b.lines limits k bound) (sym count) (λ d e.
        subst (λ (v : ℤ). IsCostBound b.problem b.lines (get_or b.problem.costs n d) (v +ℤ pos 1) bound) (limit_read e)
        (subst (λ (p : ProblemValue). IsCostBound b.problem b.lines (get_or p.costs n d) (limit +ℤ pos 1) bound)
        (sym on.problem) (row d)))

    limited_at : (e : ℤ) → IsLimited (get_or limits (length bounds) e) bound
    limited_at e = subst (λ (k : ℕ). IsLimited (get_or limits k e) bound) (sym count)
        (subst (λ (v : ℤ). IsLimited v bound) (limit_read e) limited)

    later : AreExcesses b.problem b.lines limits bounds
    later = subst (λ (p : ProblemValue). AreExcesses p b.lines limits bounds) (sym on.problem)
        (excesses_later law a.problem a.lines b.lines ready.state limits bounds
        (keep a.problem a.lines b.lines (join.totalizer a b on)) ready.reached excesses)

    pub excesses_on : AreExcesses b.problem b.lines limits (bounds ++ bound ∷ [])
    excesses_on = excesses_more b.problem b.lines limits bounds bound later (omega arith) excess_at limited_at

    pub clashed : IsUndeniable lits bound → IsQuestion b limits (bounds ++ bound ∷ []) bound None
    clashed undenied = record {
      excesses = excesses_on;
      asked = record { before = bounds; are = refl; lits = lits; denies = denies; undeniable = undenied };
    }
