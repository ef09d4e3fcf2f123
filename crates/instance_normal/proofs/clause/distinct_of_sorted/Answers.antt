use Rattle.std.proofs.Common.{◌≡◌, ◌↔◌, ℕ, ◌+◌, ◌≤◌, List, [], ◌∷◌, ◌++◌, take, drop, slice_index_or, sym, ap, ◌∙◌, subst, arith}
use Rattle.std.specs.Prelude.{Contains}
use Rattle.std.proofs.lemmas.List.{get_or_read, take_more, take_all, take-append-drop}
use Rattle.std.proofs.lemmas.List.Elements.{All-weaker, Contains-append_left}
use Rattle.scut_base.specs.Literal.{Literal}
use Rattle.instance_normal.proofs.Distinct.{tautology_from, put_both}
use Rattle.instance_normal.proofs.clause.distinct_of_sorted.Goals as goal

within : (k : ℕ) (ls : List Literal) (l : Literal) → Contains (take k ls) l → Contains ls l
within k ls l there = subst (λ (xs : List Literal). Contains xs l) (take-append-drop k ls) (Contains-append_left (take k ls) (drop k ls) l there)

pub returns-then-branch : goal.returns-then-branch
returns-then-branch c =
    let there = within c.loop-lit.lit-index c.args.sorted.now _ ((c.loop-lit.invariant.same _).0 (c.in_ok-add_literal.ensures.found c.if-branch.true)) in
    tautology_from c.args.sorted.now c.lit-item.result (c.loop-lit.lit-index, c.loop-lit-test.true, sym c.lit-item.is) there

together : (new old done more : List Literal) (l : Literal) → ((x : Literal) → Contains new x ↔ Contains (old ++ l ∷ []) x) → ((x : Literal) → Contains old x ↔ Contains done x) → more ≡ done ++ l ∷ [] → (x : Literal) → Contains new x ↔ Contains more x
together new old done more l added same longer x =
    let both = put_both old done l same x in (
      (λ there. subst (λ (xs : List Literal). Contains xs x) (sym longer) (both.0 ((added x).0 there))),
      (λ there. (added x).1 (both.1 (subst (λ (xs : List Literal). Contains xs x) longer there))),
    )

pub loop-lit-preserved : goal.loop-lit-preserved
loop-lit-preserved c = record {
  rising = c.in_ok-add_literal.ensures.rising;
  upto = λ k d h short.
      let order = c.requires c.loop-lit.lit-index k d (omega arith) short in
      let here = ap (λ (l : Literal). l.var) (get_or_read c.args.sorted.now c.loop-lit.lit-index c.lit-item.result c.loop-lit-test.true c.lit-item.is d) in
      All-weaker (λ (l : Literal). l.var ≤ c.lit-item.result.var) (λ (l : Literal). l.var ≤ (slice_index_or c.args.sorted.now k d).var) (λ l below. omega arith) c.add_literal.new.distinct c.in_ok-add_literal.ensures.upto;
  same =
      let longer : take (c.loop-lit.lit-index + 1) c.args.sorted.now ≡ take c.loop-lit.lit-index c.args.sorted.now ++ c.lit-item.result ∷ [] = take_more c.args.sorted.now c.loop-lit.lit-index c.lit-item.result c.loop-lit-test.true ∙ ap (λ (l : Literal). take c.loop-lit.lit-index c.args.sorted.now ++ l ∷ []) (sym c.lit-item.is) in
      together c.add_literal.new.distinct c.loop-lit.distinct (take c.loop-lit.lit-index c.args.sorted.now) (take (c.loop-lit.lit-index + 1) c.args.sorted.now) c.lit-item.result (c.in_ok-add_literal.ensures.added c.if-branch.false) c.loop-lit.invariant.same longer;
}

pub returns : goal.returns
returns c =
    let whole : take c.loop-lit.lit-index c.args.sorted.now ≡ c.args.sorted.now = take_all c.loop-lit.lit-index c.args.sorted.now c.loop-lit-test.false in
    record {
      rising = c.loop-lit.invariant.rising;
      same = λ l. subst (λ (xs : List Literal). Contains c.loop-lit.distinct l ↔ Contains xs l) whole (c.loop-lit.invariant.same l);
    }
