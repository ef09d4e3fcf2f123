use Rattle.std.proofs.Common.{◌≡◌, ℕ, ◌<◌, ◌≤◌, List, [], ◌∷◌, ◌++◌, arith, subst, sym, ap, ◌∙◌, Option, ◌+◌}
use Rattle.std.specs.List.{All}
use Rattle.std.specs.Option.{option_to_list}
use Rattle.std.proofs.lemmas.List.Elements.{All-push, All-weaker}
use Rattle.std.proofs.lemmas.List.Sums.{sum_by_push}
use Rattle.scut_base.specs.Literal.{Literal}
use Rattle.pb_lin.specs.Constraint.{TermsUpTo, total, value, term_value}
use Rattle.pb_lin.specs.Constraint.{IsMerged}
use Rattle.scut_base.proofs.Lists.{All-prefix, All-last, AllPairs-last}
use Rattle.pb_lin.proofs.Merges.{merged_prefix, merged_push, below_from_last}
use Rattle.pb_lin.proofs.normal.push_term.Goals as goal

pub returns-then-var-clause-merged : goal.returns-then-var-clause-merged
returns-then-var-clause-merged c =
    let old = subst IsMerged c.in-Some.ensures c.requires.merged in
    let new : c.push-then-var-2.new.self ≡ (c.pop.new.self ++ c.in-Some.last ∷ []) ++ c.args.term ∷ [] = c.in_ok-push-3.ensures.ok ∙ ap (λ (ts : List (Literal × ℕ)). ts ++ c.args.term ∷ []) c.in_ok-push-2.ensures.ok in
    subst IsMerged (sym new) (merged_push _ c.args.term old (below_from_last c.pop.new.self c.in-Some.last c.args.term.0.var old (omega arith)) c.requires.positive (omega arith))

pub returns-then-var-clause-upto : goal.returns-then-var-clause-upto
returns-then-var-clause-upto c =
    let old = subst IsMerged c.in-Some.ensures c.requires.merged in
    let new : c.push-then-var-2.new.self ≡ (c.pop.new.self ++ c.in-Some.last ∷ []) ++ c.args.term ∷ [] = c.in_ok-push-3.ensures.ok ∙ ap (λ (ts : List (Literal × ℕ)). ts ++ c.args.term ∷ []) c.in_ok-push-2.ensures.ok in
    let upto = subst (TermsUpTo c.args.term.0.var) c.in-Some.ensures c.requires.upto in
    subst (TermsUpTo c.args.term.0.var) (sym new) (All-push (λ (t : Literal × ℕ). t.0.var ≤ c.args.term.0.var) (c.pop.new.self ++ c.in-Some.last ∷ []) c.args.term upto (omega arith))

pub add_terms-joined-requires-clause-same : goal.add_terms-joined-requires-clause-same
add_terms-joined-requires-clause-same c =
    let upto = subst (TermsUpTo c.args.term.0.var) c.in-Some.ensures c.requires.upto in
    let least = All-last (λ (t : Literal × ℕ). t.0.var ≤ c.args.term.0.var) c.pop.new.self c.in-Some.last upto in
    omega arith

pub add_terms-joined-requires-clause-positive : goal.add_terms-joined-requires-clause-positive
add_terms-joined-requires-clause-positive c =
    let merged = subst IsMerged c.in-Some.ensures c.requires.merged in
    All-last (λ (t : Literal × ℕ). 0 < t.1) c.pop.new.self c.in-Some.last merged.positive

pub returns-then-var-clause-value : goal.returns-then-var-clause-value
returns-then-var-clause-value c = λ a.
    let old : value a c.args.merged.now ≡ value a (c.pop.new.self ++ c.in-Some.last ∷ []) = ap (value a) c.in-Some.ensures in
    let new : value a c.push-then-var-2.new.self ≡ value a ((c.pop.new.self ++ c.in-Some.last ∷ []) ++ c.args.term ∷ []) = ap (value a) (c.in_ok-push-3.ensures.ok ∙ ap (λ (ts : List (Literal × ℕ)). ts ++ c.args.term ∷ []) c.in_ok-push-2.ensures.ok) in
    let sum = sum_by_push (term_value a) (c.pop.new.self ++ c.in-Some.last ∷ []) c.args.term in
    omega arith

pub returns-then-var-clause-total : goal.returns-then-var-clause-total
returns-then-var-clause-total c =
    let old : total c.args.merged.now ≡ total (c.pop.new.self ++ c.in-Some.last ∷ []) = ap total c.in-Some.ensures in
    let new : total c.push-then-var-2.new.self ≡ total ((c.pop.new.self ++ c.in-Some.last ∷ []) ++ c.args.term ∷ []) = ap total (c.in_ok-push-3.ensures.ok ∙ ap (λ (ts : List (Literal × ℕ)). ts ++ c.args.term ∷ []) c.in_ok-push-2.ensures.ok) in
    let sum = sum_by_push (λ (t : Literal × ℕ). t.1) (c.pop.new.self ++ c.in-Some.last ∷ []) c.args.term in
    omega arith

pub returns-in_ok-push-4-clause-total : goal.returns-in_ok-push-4-clause-total
returns-in_ok-push-4-clause-total c =
    let joined = subst (λ (o : Option (Literal × ℕ)). total (option_to_list o) + c.add_terms-joined.result.1 ≤ c.in-Some.last.1 + c.args.term.1) c.in-Some-joined.is c.add_terms-joined.ensures.total in
    let old : total c.args.merged.now ≡ total c.pop.new.self + c.in-Some.last.1 = ap total c.in-Some.ensures ∙ sum_by_push (λ (t : Literal × ℕ). t.1) c.pop.new.self c.in-Some.last in
    let new : total c.push-in-Some-joined.new.self ≡ total c.pop.new.self + c.in-Some-joined.left.1 = ap total c.in_ok-push-4.ensures.ok ∙ sum_by_push (λ (t : Literal × ℕ). t.1) c.pop.new.self c.in-Some-joined.left in
    omega arith

pub returns-in_default-joined-clause-value : goal.returns-in_default-joined-clause-value
returns-in_default-joined-clause-value c = λ a.
    let joined = subst (λ (o : Option (Literal × ℕ)). value a (option_to_list o) + c.add_terms-joined.result.1 ≡ term_value a c.in-Some.last + term_value a c.args.term) c.in_default-joined.is (c.add_terms-joined.ensures.value a) in
    let old : value a c.args.merged.now ≡ value a c.pop.new.self + term_value a c.in-Some.last = ap (value a) c.in-Some.ensures ∙ sum_by_push (term_value a) c.pop.new.self c.in-Some.last in
    omega arith

pub returns-in_default-joined-clause-total : goal.returns-in_default-joined-clause-total
returns-in_default-joined-clause-total c =
    let joined = subst (λ (o : Option (Literal × ℕ)). total (option_to_list o) + c.add_terms-joined.result.1 ≤ c.in-Some.last.1 + c.args.term.1) c.in_default-joined.is c.add_terms-joined.ensures.total in
    let old : total c.args.merged.now ≡ total c.pop.new.self + c.in-Some.last.1 = ap total c.in-Some.ensures ∙ sum_by_push (λ (t : Literal × ℕ). t.1) c.pop.new.self c.in-Some.last in
    omega arith

pub returns-in_ok-push-4-clause-value : goal.returns-in_ok-push-4-clause-value
returns-in_ok-push-4-clause-value c = λ a.
    let joined = subst (λ (o : Option (Literal × ℕ)). value a (option_to_list o) + c.add_terms-joined.result.1 ≡ term_value a c.in-Some.last + term_value a c.args.term) c.in-Some-joined.is (c.add_terms-joined.ensures.value a) in
    let old : value a c.args.merged.now ≡ value a c.pop.new.self + term_value a c.in-Some.last = ap (value a) c.in-Some.ensures ∙ sum_by_push (term_value a) c.pop.new.self c.in-Some.last in
    let new : value a c.push-in-Some-joined.new.self ≡ value a c.pop.new.self + term_value a c.in-Some-joined.left = ap (value a) c.in_ok-push-4.ensures.ok ∙ sum_by_push (term_value a) c.pop.new.self c.in-Some-joined.left in
    omega arith

pub returns-in_ok-push-4-clause-merged : goal.returns-in_ok-push-4-clause-merged
returns-in_ok-push-4-clause-merged c =
    let old = subst IsMerged c.in-Some.ensures c.requires.merged in
    let left = subst (λ (o : Option (Literal × ℕ)). All (λ (t : Literal × ℕ). (t.0.var ≡ c.in-Some.last.0.var) × (0 < t.1)) (option_to_list o)) c.in-Some-joined.is c.add_terms-joined.ensures.left 0 c.in-Some-joined.left (omega arith) in
    let from_one = All-last (λ (t : Literal × ℕ). 0 < t.0.var) c.pop.new.self c.in-Some.last old.from_one in
    let below = AllPairs-last (λ (s t : Literal × ℕ). s.0.var < t.0.var) c.pop.new.self c.in-Some.last old.rising in
    subst IsMerged (sym c.in_ok-push-4.ensures.ok) (merged_push c.pop.new.self c.in-Some-joined.left (merged_prefix c.pop.new.self c.in-Some.last old) (All-weaker (λ (t : Literal × ℕ). t.0.var < c.in-Some.last.0.var) (λ (t : Literal × ℕ). t.0.var < c.in-Some-joined.left.0.var) (λ t h. omega arith) c.pop.new.self below) left.1 (omega arith))

pub returns-in_ok-push-4-clause-upto : goal.returns-in_ok-push-4-clause-upto
returns-in_ok-push-4-clause-upto c =
    let left = subst (λ (o : Option (Literal × ℕ)). All (λ (t : Literal × ℕ). (t.0.var ≡ c.in-Some.last.0.var) × (0 < t.1)) (option_to_list o)) c.in-Some-joined.is c.add_terms-joined.ensures.left 0 c.in-Some-joined.left (omega arith) in
    let upto = subst (TermsUpTo c.args.term.0.var) c.in-Some.ensures c.requires.upto in
    let last = All-last (λ (t : Literal × ℕ). t.0.var ≤ c.args.term.0.var) c.pop.new.self c.in-Some.last upto in
    subst (TermsUpTo c.args.term.0.var) (sym c.in_ok-push-4.ensures.ok) (All-push (λ (t : Literal × ℕ). t.0.var ≤ c.args.term.0.var) c.pop.new.self c.in-Some-joined.left (All-prefix (λ (t : Literal × ℕ). t.0.var ≤ c.args.term.0.var) c.pop.new.self c.in-Some.last upto) (omega arith))

pub returns-in_default-joined-clause-merged : goal.returns-in_default-joined-clause-merged
returns-in_default-joined-clause-merged c = merged_prefix c.pop.new.self c.in-Some.last (subst IsMerged c.in-Some.ensures c.requires.merged)

pub returns-in_default-joined-clause-upto : goal.returns-in_default-joined-clause-upto
returns-in_default-joined-clause-upto c = All-prefix (λ (t : Literal × ℕ). t.0.var ≤ c.args.term.0.var) c.pop.new.self c.in-Some.last (subst (TermsUpTo c.args.term.0.var) c.in-Some.ensures c.requires.upto)
