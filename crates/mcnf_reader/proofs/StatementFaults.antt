-- Which lines have a fault, by what they spell.
use Rattle.std.proofs.Common.{◌≡◌, ◌≢◌, ℕ, ◌+◌, ◌-◌, ◌<◌, ◌≤◌, ◌^◌, Bool, true, false, cond, List, [], ◌∷◌, length, map, drop, Option, None, Some, ⊎_elim, refl, sym, ap, ◌∙◌, arith}
use Rattle.std.specs.Prelude.{codes, slice_index, ◌==◌, ◌&&◌}
use Rattle.std.specs.Option.{option_or}
use Rattle.std.specs.List.{AllZip}
use Rattle.std.specs.Str.{bytes_eq}
use Rattle.std.proofs.lemmas.Bool.{and_left, cases_Bool, cond-true, cond-false, false_from_ne_true, eq-eqb, ne_eqb, eqb-true, eqb-false}
use Rattle.std.proofs.lemmas.List.Elements.{All-nil, All-cons, All-head, All-tail}
use Rattle.std.proofs.lemmas.List.FromFn.{get_or-map-range_with_len}
use Rattle.std.proofs.lemmas.List.Sums.{sum_by-append, sum_by-cons}
use Rattle.std.proofs.lemmas.Slice.Eq.{bytes_eq-Decides}
use Rattle.scut_base.specs.Literal.{Literal}
use Rattle.scut_base.specs.Number.{natural_value}
use Rattle.instance.specs.declared.fault.BadKind.TheVariants.{ZeroMissing, TextAfterZero, WeightExpected}
use Rattle.instance.specs.declared.fault.PlaceFault.{PlaceFault}
use Rattle.instance.specs.declared.fault.PlaceFault.TheVariants.{Bad}
use Rattle.instance.specs.declared.objective.Soft.{Soft}
use Rattle.instance.specs.Reading.{IsPlaceFaultOf}
use Rattle.instance.specs.Shape.{weights_sum}
use Rattle.mcnf_reader.specs.declared.statement.Statement.{Statement}
use Rattle.mcnf_reader.specs.declared.statement.Statement.TheVariants.{Nothing, Hard, Soft as SoftIn}
use Rattle.mcnf_reader.specs.Grammar.{SpellsLiteral, SpellsZero, SpellsClause, SpellsObjective, SpellsWeight, SpellsStatement, soft_of, softs_of}
use Rattle.mcnf_reader.specs.FirstFault.{objective_fault, weight_fault, literal_fault, is_zero, ending_fault, clause_fault, soft_fault, weight_in, weights_in, line_fault}
use Rattle.mcnf_reader.specs.LineLimits.{IsClauseWithin, IsStatementWithin, IsSumsOf}
use Rattle.mcnf_reader.specs.Draft.{weight_of, objective_numbers}
use Rattle.scut_base.proofs.Lists.{map_agree}
use Rattle.scut_base.proofs.Options.{or_at_none, or_none}
use Rattle.mcnf_reader.proofs.FaultChoice.{place_fault, place_fault_same}
use Rattle.mcnf_reader.proofs.WordFaults.{objective_none, objective_from, weight_none, weight_from, literal_none, literal_from, zero_passes, zero_from, no_zero_at_literal}

-- a clause after one literal
pub clause_after : (word : List ℕ) (words : List (List ℕ)) (l : Literal) → SpellsLiteral word l → l.var ≤ 2 ^ 24 → clause_fault (word ∷ words) ≡ clause_fault words
clause_after word words l spelled le = cond-false (is_zero word) (ending_fault words) (option_or (literal_fault word) (clause_fault words)) (no_zero_at_literal word l spelled) ∙ or_at_none (literal_fault word) (clause_fault words) (literal_none word l spelled le)

-- the fault of a word that is neither a literal within the limit nor the terminator
pub word_wrong : (all words rest : List (List ℕ)) (word : List ℕ) (f : PlaceFault) → clause_fault all ≡ clause_fault words → words ≡ word ∷ rest → is_zero word ≡ false → literal_fault word ≡ Some f → IsPlaceFaultOf (clause_fault all) f
word_wrong all words rest word f same cut other wrong = place_fault (clause_fault all) f (same ∙ ap clause_fault cut ∙ cond-false (is_zero word) (ending_fault rest) (option_or (literal_fault word) (clause_fault rest)) other ∙ ap (λ o. option_or o (clause_fault rest)) wrong)

-- a word after the terminator
pub text_after : (all words rest more : List (List ℕ)) (word next : List ℕ) → clause_fault all ≡ clause_fault words → words ≡ word ∷ rest → SpellsZero word → rest ≡ next ∷ more → clause_fault all ≡ Some (Bad TextAfterZero)
text_after all words rest more word next same cut zero left = same ∙ ap clause_fault cut ∙ cond-true (is_zero word) (ending_fault rest) (option_or (literal_fault word) (clause_fault rest)) (zero_passes word zero) ∙ ap ending_fault left

-- a clause within the limit has no fault
pub clause_none : (words : List (List ℕ)) (lits : List Literal) → SpellsClause words lits → IsClauseWithin lits → clause_fault words ≡ None
clause_none [] lits spelled within = absurd spelled
clause_none (word ∷ []) [] zero within = cond-true (is_zero word) None (option_or (literal_fault word) (Some (Bad ZeroMissing))) (zero_passes word zero)
clause_none (word ∷ next ∷ words) [] spelled within = absurd spelled
clause_none (word ∷ words) (l ∷ lits) spelled within =
    clause_after word words l spelled.0 (All-head (λ k. k.var ≤ 2 ^ 24) l lits within) ∙ clause_none words lits spelled.1 (All-tail (λ k. k.var ≤ 2 ^ 24) l lits within)

-- the literals that words without a fault spell
abbrev HasClause : List (List ℕ) → Type 0
HasClause words = (lits : List Literal) × SpellsClause words lits × IsClauseWithin lits

ends : (word : List ℕ) (words : List (List ℕ)) → is_zero word ≡ true → ending_fault words ≡ None → HasClause (word ∷ words)
ends word [] zero none = ([], zero_from word zero, All-nil (λ (k : Literal). k.var ≤ 2 ^ 24))
ends word (next ∷ words) zero none = absurd cc

clause_first : (word : List ℕ) (words : List (List ℕ)) → (clause_fault words ≡ None → HasClause words) → clause_fault (word ∷ words) ≡ None → HasClause (word ∷ words)
clause_first word words rest none =
    let otherwise : Option PlaceFault = option_or (literal_fault word) (clause_fault words) in
    ⊎_elim
    (λ (zero : is_zero word ≡ true). ends word words zero (sym (cond-true (is_zero word) (ending_fault words) otherwise zero) ∙ none))
    (λ (other : is_zero word ≡ false).
    let parts = or_none (literal_fault word) (clause_fault words) (sym (cond-false (is_zero word) (ending_fault words) otherwise other) ∙ none) in
    let first = literal_from word parts.0 in
    let more = rest parts.1 in
    (first.0 ∷ more.0, (first.1, more.1), All-cons (λ k. k.var ≤ 2 ^ 24) first.0 more.0 first.2 more.2))
    (cases_Bool (is_zero word))

pub clause_from : (words : List (List ℕ)) → clause_fault words ≡ None → HasClause words
clause_from [] none = absurd cc
clause_from (word ∷ words) none = clause_first word words (λ e. clause_from words e) none

-- the sum that belongs to an objective
pub sum_at : (before : List (List (List ℕ))) (sums : List ℕ) (k : ℕ) → IsSumsOf before sums → 0 < k → k ≤ 64 → slice_index sums (k - 1) ≡ weights_in k before
sum_at before sums k same some le = ap (λ ns. slice_index ns (k - 1)) same ∙ get_or-map-range_with_len (λ k. weights_in k before) 1 64 (k - 1) k 0 (omega arith) (omega arith)

is_h : (word : List ℕ) → word ≡ codes "h" → bytes_eq word (codes "h") ≡ true
is_h word same = (bytes_eq-Decides word (codes "h")).1 same

not_h : (word : List ℕ) → (word ≡ codes "h" → ⊥) → bytes_eq word (codes "h") ≡ false
not_h word other = false_from_ne_true (bytes_eq word (codes "h")) (λ e. other ((bytes_eq-Decides word (codes "h")).0 e))

letter_h : (word : List ℕ) → word ≡ codes "h" → slice_index word 0 ≡ 104
letter_h word same = ap (λ w. slice_index w 0) same

-- the fault of each kind of line
comment_line : (before : List (List (List ℕ))) (first : List ℕ) (words : List (List ℕ)) → slice_index first 0 ≡ 99 → line_fault before (first ∷ words) ≡ None
comment_line before first words comment =
    let soft : Option PlaceFault = option_or (objective_fault first) (soft_fault (weights_in (natural_value (drop 1 first)) before) words) in
    cond-true (slice_index first 0 == 99) None (cond (bytes_eq first (codes "h")) (clause_fault words) soft) (eq-eqb (slice_index first 0) 99 comment)

hard_line : (before : List (List (List ℕ))) (first : List ℕ) (words : List (List ℕ)) → first ≡ codes "h" → line_fault before (first ∷ words) ≡ clause_fault words
hard_line before first words hard =
    let soft : Option PlaceFault = option_or (objective_fault first) (soft_fault (weights_in (natural_value (drop 1 first)) before) words) in
    cond-false (slice_index first 0 == 99) None (cond (bytes_eq first (codes "h")) (clause_fault words) soft) (ne_eqb (slice_index first 0) 99 (λ e. absurd (omega (arith, letter_h first hard))))
    ∙ cond-true (bytes_eq first (codes "h")) (clause_fault words) soft (is_h first hard)

other_line : (before : List (List (List ℕ))) (first : List ℕ) (words : List (List ℕ)) → slice_index first 0 ≢ 99 → (first ≡ codes "h" → ⊥) → line_fault before (first ∷ words) ≡ option_or (objective_fault first) (soft_fault (weights_in (natural_value (drop 1 first)) before) words)
other_line before first words no_comment no_hard =
    let soft : Option PlaceFault = option_or (objective_fault first) (soft_fault (weights_in (natural_value (drop 1 first)) before) words) in
    cond-false (slice_index first 0 == 99) None (cond (bytes_eq first (codes "h")) (clause_fault words) soft) (ne_eqb (slice_index first 0) 99 no_comment)
    ∙ cond-false (bytes_eq first (codes "h")) (clause_fault words) soft (not_h first no_hard)

same_after : {X : Type 0} (o p q : Option X) → (o ≡ None → p ≡ q) → option_or o p ≡ option_or o q
same_after None p q same = same refl
same_after (Some x) p q same = refl

pub soft_line : (before : List (List (List ℕ))) (sums : List ℕ) (first : List ℕ) (words : List (List ℕ)) → IsSumsOf before sums → slice_index first 0 ≢ 99 → (first ≡ codes "h" → ⊥) → line_fault before (first ∷ words) ≡ option_or (objective_fault first) (soft_fault (slice_index sums (natural_value (drop 1 first) - 1)) words)
soft_line before sums first words same no_comment no_hard =
    let k = natural_value (drop 1 first) in
    other_line before first words no_comment no_hard ∙ same_after (objective_fault first) (soft_fault (weights_in k before) words) (soft_fault (slice_index sums (k - 1)) words) (λ none.
    let objective = objective_from first none in
    ap (λ n. soft_fault n words) (sym (sum_at before sums k same objective.0.positive objective.1)))

-- the fault of a soft clause after its objective
pub after_objective : (sums : List ℕ) (first : List ℕ) (words : List (List ℕ)) (k : ℕ) → SpellsObjective first k → k ≤ 64 → option_or (objective_fault first) (soft_fault (slice_index sums (natural_value (drop 1 first) - 1)) words) ≡ soft_fault (slice_index sums (k - 1)) words
after_objective sums first words k objective le =
    or_at_none (objective_fault first) (soft_fault (slice_index sums (natural_value (drop 1 first) - 1)) words) (objective_none first k objective le) ∙ ap (λ n. soft_fault (slice_index sums (n - 1)) words) objective.value

pub no_weight_left : (sums : List ℕ) (first : List ℕ) (words : List (List ℕ)) (k : ℕ) → SpellsObjective first k → k ≤ 64 → words ≡ [] → option_or (objective_fault first) (soft_fault (slice_index sums (natural_value (drop 1 first) - 1)) words) ≡ Some (Bad WeightExpected)
no_weight_left sums first words k objective le none = after_objective sums first words k objective le ∙ ap (soft_fault (slice_index sums (k - 1))) none

pub weight_wrong : (sums : List ℕ) (first : List ℕ) (words rest : List (List ℕ)) (second : List ℕ) (k : ℕ) (f : PlaceFault) → SpellsObjective first k → k ≤ 64 → words ≡ second ∷ rest → weight_fault (slice_index sums (k - 1)) second ≡ Some f → IsPlaceFaultOf (option_or (objective_fault first) (soft_fault (slice_index sums (natural_value (drop 1 first) - 1)) words)) f
weight_wrong sums first words rest second k f objective le cut wrong = place_fault _ f (after_objective sums first words k objective le ∙ ap (soft_fault (slice_index sums (k - 1))) cut ∙ ap (λ o. option_or o (clause_fault rest)) wrong)

pub clause_wrong : (sums : List ℕ) (first : List ℕ) (words rest : List (List ℕ)) (second : List ℕ) (k weight : ℕ) (f : PlaceFault) → SpellsObjective first k → k ≤ 64 → words ≡ second ∷ rest → SpellsWeight second weight → slice_index sums (k - 1) + weight < 2 ^ 63 → IsPlaceFaultOf (clause_fault rest) f → IsPlaceFaultOf (option_or (objective_fault first) (soft_fault (slice_index sums (natural_value (drop 1 first) - 1)) words)) f
clause_wrong sums first words rest second k weight f objective le cut spelled small wrong = place_fault_same (clause_fault rest) _ f (after_objective sums first words k objective le ∙ ap (soft_fault (slice_index sums (k - 1))) cut ∙ or_at_none (weight_fault (slice_index sums (k - 1)) second) (clause_fault rest) (weight_none (slice_index sums (k - 1)) second weight spelled small)) wrong

-- the fault of a line whose first word is neither a comment's nor a hard clause's
pub soft_wrong : (sums : List ℕ) (line words : List (List ℕ)) (first : List ℕ) (f : PlaceFault) → line ≡ first ∷ words → slice_index first 0 ≢ 99 → (first ≡ codes "h" → ⊥) → IsPlaceFaultOf (option_or (objective_fault first) (soft_fault (slice_index sums (natural_value (drop 1 first) - 1)) words)) f → (before : List (List (List ℕ))) → IsSumsOf before sums → IsPlaceFaultOf (line_fault before line) f
soft_wrong sums line words first f cut no_comment no_hard wrong before same = place_fault_same _ (line_fault before line) f (ap (line_fault before) cut ∙ soft_line before sums first words same no_comment no_hard) wrong

pub empty_letter : (word : List ℕ) → length word < 1 → slice_index word 0 ≡ 0
empty_letter [] short = refl
empty_letter (x ∷ word) short = absurd (omega arith)

-- a line that spells a statement within the limits has no fault
pub line_none : (before : List (List (List ℕ))) (sums : List ℕ) → IsSumsOf before sums → (words : List (List ℕ)) (s : Statement) → SpellsStatement words s → IsStatementWithin sums s → line_fault before words ≡ None
line_none before sums same [] s says within = refl
line_none before sums same (first ∷ words) Nothing says within = comment_line before first words says
line_none before sums same (first ∷ words) (Hard lits) says within = hard_line before first words says.0 ∙ clause_none words lits says.1 within
line_none before sums same (first ∷ []) (SoftIn k weight lits) says within = absurd says
line_none before sums same (first ∷ second ∷ words) (SoftIn k weight lits) says within =
    let here : slice_index sums (natural_value (drop 1 first) - 1) ≡ slice_index sums (k - 1) = ap (λ n. slice_index sums (n - 1)) says.0.value in
    let small : slice_index sums (natural_value (drop 1 first) - 1) + weight < 2 ^ 63 = omega (arith, here, within.2) in
    let so_far = slice_index sums (natural_value (drop 1 first) - 1) in
    soft_line before sums first (second ∷ words) same (λ e. absurd (omega (arith, says.0.letter))) (λ e. absurd (omega (arith, says.0.letter, letter_h first e)))
    ∙ or_at_none (objective_fault first) (soft_fault so_far (second ∷ words)) (objective_none first k says.0 within.1)
    ∙ or_at_none (weight_fault so_far second) (clause_fault words) (weight_none so_far second weight says.1 small)
    ∙ clause_none words lits says.2 within.3

-- the statement of a line without a fault
abbrev HasStatement : List ℕ → List (List ℕ) → Type 0
HasStatement sums words = (s : Statement) × SpellsStatement words s × IsStatementWithin sums s

soft_from : (sums : List ℕ) (first : List ℕ) (words : List (List ℕ)) → objective_fault first ≡ None → soft_fault (slice_index sums (natural_value (drop 1 first) - 1)) words ≡ None → HasStatement sums (first ∷ words)
soft_from sums first [] some none = absurd cc
soft_from sums first (second ∷ words) some none =
    let k = natural_value (drop 1 first) in
    let so_far = slice_index sums (k - 1) in
    let parts = or_none (weight_fault so_far second) (clause_fault words) none in
    let objective = objective_from first some in
    let weight = weight_from so_far second parts.0 in
    let clause = clause_from words parts.1 in
    (SoftIn k (natural_value second) clause.0, (objective.0, weight.0, clause.1), (objective.0.positive, objective.1, weight.1, clause.2))

hard_from : (sums : List ℕ) (first : List ℕ) (words : List (List ℕ)) → first ≡ codes "h" → clause_fault words ≡ None → HasStatement sums (first ∷ words)
hard_from sums first words hard none =
    let clause = clause_from words none in
    (Hard clause.0, (hard, clause.1), clause.2)

word_from : (before : List (List (List ℕ))) (sums : List ℕ) (first : List ℕ) (words : List (List ℕ)) → IsSumsOf before sums → slice_index first 0 ≢ 99 → line_fault before (first ∷ words) ≡ None → HasStatement sums (first ∷ words)
word_from before sums first words same no_comment none =
    ⊎_elim
    (λ (e : bytes_eq first (codes "h") ≡ true).
    let hard : first ≡ codes "h" = (bytes_eq-Decides first (codes "h")).0 e in
    hard_from sums first words hard (sym (hard_line before first words hard) ∙ none))
    (λ (e : bytes_eq first (codes "h") ≡ false).
    let no_hard : first ≡ codes "h" → ⊥ = λ h. let yes : bytes_eq first (codes "h") ≡ true = is_h first h in cc in
    let parts = or_none (objective_fault first) (soft_fault (slice_index sums (natural_value (drop 1 first) - 1)) words) (sym (soft_line before sums first words same no_comment no_hard) ∙ none) in
    soft_from sums first words parts.0 parts.1)
    (cases_Bool (bytes_eq first (codes "h")))

pub line_from : (before : List (List (List ℕ))) (sums : List ℕ) → IsSumsOf before sums → (words : List (List ℕ)) → line_fault before words ≡ None → HasStatement sums words
line_from before sums same [] none = (Nothing, tt, tt)
line_from before sums same (first ∷ words) none =
    ⊎_elim
    (λ (e : (slice_index first 0 == 99) ≡ true). (Nothing, eqb-true (slice_index first 0) 99 e, tt))
    (λ (e : (slice_index first 0 == 99) ≡ false). word_from before sums first words same (eqb-false (slice_index first 0) 99 e) none)
    (cases_Bool (slice_index first 0 == 99))

-- the weight of a line is that of its statement
weight_if : (b : Bool) (k weight : ℕ) (lits : List Literal) → cond b weight 0 ≡ weights_sum (cond b (record { weight = weight; lits = lits } ∷ []) [])
weight_if true k weight lits = omega arith
weight_if false k weight lits = refl

no_weight : (k : ℕ) (first : List ℕ) (words : List (List ℕ)) → slice_index first 0 ≢ 111 → weight_in k (first ∷ words) ≡ 0
no_weight k first [] other = refl
no_weight k first (second ∷ words) other = cond-false (slice_index first 0 == 111 && natural_value (drop 1 first) == k) (natural_value second) 0 (and_left (slice_index first 0 == 111) (natural_value (drop 1 first) == k) (ne_eqb (slice_index first 0) 111 other))

pub weight_same : (k : ℕ) (words : List (List ℕ)) (s : Statement) → SpellsStatement words s → weight_in k words ≡ weights_sum (soft_of k s)
weight_same k [] Nothing says = refl
weight_same k [] (Hard lits) says = absurd says
weight_same k [] (SoftIn o weight lits) says = absurd says
weight_same k (first ∷ words) Nothing says = no_weight k first words (λ e. absurd (omega (arith, says)))
weight_same k (first ∷ words) (Hard lits) says = no_weight k first words (λ e. absurd (omega (arith, letter_h first says.0)))
weight_same k (first ∷ []) (SoftIn o weight lits) says = absurd says
weight_same k (first ∷ second ∷ words) (SoftIn o weight lits) says =
    let b : Bool = o == k in
    let letter : (slice_index first 0 == 111) ≡ true = eq-eqb (slice_index first 0) 111 says.0.letter in
    ap (λ (t : Bool). cond (t && natural_value (drop 1 first) == k) (natural_value second) 0) letter
    ∙ ap (λ (n : ℕ). cond (n == k) (natural_value second) 0) says.0.value
    ∙ ap (λ (w : ℕ). cond b w 0) says.1.1
    ∙ weight_if b k weight lits

pub weights_same : (k : ℕ) (before : List (List (List ℕ))) (done : List Statement) → AllZip SpellsStatement before done → weight_of done k ≡ weights_in k before
weights_same k [] [] spelled = refl
weights_same k [] (s ∷ done) spelled = absurd spelled
weights_same k (words ∷ before) [] spelled = absurd spelled
weights_same k (words ∷ before) (s ∷ done) spelled = sum_by-append (λ (x : Soft). x.weight) (soft_of k s) (softs_of k done) ∙ ap (λ n. weights_sum (soft_of k s) + n) (weights_same k before done spelled.1) ∙ ap (λ n. n + weights_in k before) (sym (weight_same k words s spelled.0)) ∙ sym (sum_by-cons (weight_in k) words before)

pub sums_same : (before : List (List (List ℕ))) (done : List Statement) → AllZip SpellsStatement before done → IsSumsOf before (map (weight_of done) objective_numbers)
sums_same before done spelled = map_agree (weight_of done) (λ k. weights_in k before) (λ k. weights_same k before done spelled) objective_numbers
