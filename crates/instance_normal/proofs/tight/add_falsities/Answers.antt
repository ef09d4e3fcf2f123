use Rattle.std.proofs.Common.{◌≡◌, ℕ, ◌+◌, ◌<◌, Bool, true, false, not, cond, List, [], ◌∷◌, ◌++◌, append_assoc, length, get_or, map, take, filter, sym, ap, ◌∙◌, Vec, Global}
use Rattle.std.proofs.lemmas.List.{append-nil, map-append}
use Rattle.std.proofs.lemmas.List.Elements.{filter_more}
use Rattle.instance.specs.declared.objective.Soft.{Soft}
use Rattle.instance.specs.Meaning.{clause_true}
use Rattle.instance_normal.specs.NormalForm.{is_relaxed}
use Rattle.instance_normal.proofs.tight.add_falsities.Goals as goal
use Rattle.instance_normal.proofs.tight.add_falsities.Goals.{then-branch+in_ok-push, else-branch}

-- the relaxed soft clauses of one more soft clause
more : (softs : List Soft) (i : ℕ) (s : Soft) (b : Bool) → i < length softs → s ≡ get_or softs i s → is_relaxed s ≡ b → filter is_relaxed (take (i + 1) softs) ≡ filter is_relaxed (take i softs) ++ cond b (s ∷ []) []
more softs i s b short is relaxed =
    filter_more is_relaxed softs i s short
    ∙ ap (λ (x : Soft). filter is_relaxed (take i softs) ++ cond (is_relaxed x) (x ∷ []) []) (sym is)
    ∙ ap (λ (t : Bool). filter is_relaxed (take i softs) ++ cond t (s ∷ []) []) relaxed

one_more : (f : Soft → Bool) (base old new : List Bool) (softs : List Soft) (i : ℕ) (s : Soft) (b : Bool) → i < length softs → s ≡ get_or softs i s → is_relaxed s ≡ b → old ≡ base ++ map f (filter is_relaxed (take i softs)) → new ≡ old ++ map f (cond b (s ∷ []) []) → new ≡ base ++ map f (filter is_relaxed (take (i + 1) softs))
one_more f base old new softs i s b short is relaxed before after =
    after ∙ ap (λ (vs : List Bool). vs ++ map f (cond b (s ∷ []) [])) before
    ∙ append_assoc base (map f (filter is_relaxed (take i softs))) (map f (cond b (s ∷ []) []))
    ∙ ap (λ (vs : List Bool). base ++ vs) (sym (map-append f (filter is_relaxed (take i softs)) (cond b (s ∷ []) [])))
    ∙ ap (λ (ss : List Soft). base ++ map f ss) (sym (more softs i s b short is relaxed))

pub loop-soft-preserved : goal.loop-soft-preserved
loop-soft-preserved c =
    let f : Soft → Bool = λ s. not (clause_true c.args.a.now s.lits) in
    elim c.if-branch.branch [
      | then-branch+in_ok-push w ↦
          let value : w.clause_true.result ≡ clause_true c.args.a.now c.soft-item.result.lits = w.clause_true.ensures ∙ ap (clause_true c.args.a.now) w.as_slice.ensures in
          let pushed : c.if-branch.values.items ≡ c.loop-soft.values.items ++ not (clause_true c.args.a.now c.soft-item.result.lits) ∷ [] = ap (λ (v : Vec Bool Global). v.items) w.values-is ∙ w.in_ok-push.ensures.items ∙ ap (λ (b : Bool). c.loop-soft.values.items ++ not b ∷ []) value in
          one_more f c.args.values.now.items c.loop-soft.values.items c.if-branch.values.items c.args.softs.now c.loop-soft.soft-index c.soft-item.result true c.loop-soft-test.true c.soft-item.is (sym c.in_ok-is_relaxed.ensures ∙ w.if-branch.true) c.loop-soft.invariant pushed
      | else-branch w ↦
          let same : c.if-branch.values.items ≡ c.loop-soft.values.items ++ [] = ap (λ (v : Vec Bool Global). v.items) w.values-is ∙ sym (append-nil c.loop-soft.values.items) in
          one_more f c.args.values.now.items c.loop-soft.values.items c.if-branch.values.items c.args.softs.now c.loop-soft.soft-index c.soft-item.result false c.loop-soft-test.true c.soft-item.is (sym c.in_ok-is_relaxed.ensures ∙ w.if-branch.false) c.loop-soft.invariant same
    ]
