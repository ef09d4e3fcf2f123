-- What a statement more makes of a draft.
use Rattle.std.proofs.Common.{◌≡◌, ◌≢◌, ℕ, ◌+◌, ◌<◌, ◌^◌, Bool, true, false, max, List, [], ◌∷◌, ◌++◌, length, Option, refl, sym, ap, ◌∙◌, subst, append_assoc, append-nil, arith}
use Rattle.std.specs.Prelude.{nat_lt, if◌then◌else◌}
use Rattle.std.proofs.lemmas.List.{length_push}
use Rattle.std.proofs.lemmas.List.Elements.{All-push}
use Rattle.instance.specs.declared.row.Linear.{Linear}
use Rattle.instance.specs.declared.objective.Objective.{Objective}
use Rattle.instance.specs.declared.objective.Sense.{Sense}
use Rattle.instance.specs.Shape.{objective_magnitude, row_magnitude}
use Rattle.instance.specs.declared.fault.ReadFault.{ReadFault}
use Rattle.mopb_reader.specs.Tokens.{plain, lines_of, numbered_tokens}
use Rattle.mopb_reader.specs.FirstFault.{Start, Head as Begun, Progress, Progressed, first_fault, fault_from, head_begun}
use Rattle.mopb_reader.specs.Grammar.{largest_of, largest_in_objectives, largest_in_rows, EndThen, SpellsRows, SpellsStatements}
use Rattle.mopb_reader.specs.Streams.{Stream}
use Rattle.mopb_reader.specs.Steps.{IsLeft, fault_at, fault_after}
use Rattle.mopb_reader.specs.Drafts.{IsDraft, GoesOn, AddsObjective, AddsRow, AddsStatement, has_any, progress_of, draft_fault}
use Rattle.mopb_reader.specs.declared.token.Token.{Token}
use Rattle.mopb_reader.specs.declared.token.Token.TheVariants.{Head, Semicolon}
use Rattle.mopb_reader.specs.declared.draft.Draft.{Draft}
use Rattle.mopb_reader.proofs.Cutting.{below}
use Rattle.mopb_reader.proofs.Findings.{push_some}
use Rattle.mopb_reader.proofs.Spelling.{terms_map, row_then}

-- what the tokens left spell is spelled after the semicolon
end_then : (P : List Token → Type 0) (s : Stream) → P (plain s.left) → (tokens : List Token) → EndThen (IsLeft s) tokens → EndThen P tokens
end_then P s here (Semicolon ∷ tokens) is = subst P (sym is) here
end_then P s here tokens is = absurd is

objective_goes_on : (sense : Sense) (old new : Stream) (all : List Token) (d e : Draft) → AddsObjective sense old new d e
    → GoesOn all (Head sense ∷ plain old.left) d → GoesOn all (plain new.left) e
objective_goes_on sense old new all d e adds so_far objectives rows ordered spelled =
    let o = adds.objective in
    let P = SpellsStatements objectives rows in
    let here : SpellsStatements (o ∷ objectives) rows (Head sense ∷ plain old.left) =
    (adds.read.shape, terms_map (EndThen (IsLeft new)) (EndThen P) (end_then P new spelled) (plain old.left) o.terms adds.read.read) in
    let whole : SpellsStatements (d.objectives ++ o ∷ objectives) (d.linear ++ rows) all =
    so_far (o ∷ objectives) rows (λ some. absurd (some adds.before)) here in
    let os : e.objectives ++ objectives ≡ d.objectives ++ o ∷ objectives =
    ap (λ (x : Draft). x.objectives ++ objectives) adds.added ∙ append_assoc d.objectives (o ∷ []) objectives in
    let rs : e.linear ++ rows ≡ d.linear ++ rows = ap (λ (x : Draft). x.linear ++ rows) adds.added in
    rw (os, rs) whole

row_goes_on : (first : Token) (old new : Stream) (all : List Token) (d e : Draft) → AddsRow first old new d e
    → GoesOn all (first ∷ plain old.left) d → GoesOn all (plain new.left) e
row_goes_on first old new all d e adds so_far objectives rows ordered spelled =
    let row = adds.row in
    let some : e.linear ≢ [] = λ none. push_some d.linear row (sym (ap (λ (x : Draft). x.linear) adds.added) ∙ none) in
    let none : objectives ≡ [] = ordered some in
    let tail : SpellsRows rows (plain new.left) = subst (λ (os : List Objective). SpellsStatements os rows (plain new.left)) none spelled in
    let P = SpellsRows rows in
    let here : SpellsRows (row ∷ rows) (first ∷ plain old.left) =
    row_then row (EndThen (IsLeft new)) (EndThen P) (end_then P new tail) (first ∷ plain old.left) adds.read.read in
    let whole : SpellsStatements (d.objectives ++ []) (d.linear ++ row ∷ rows) all = so_far [] (row ∷ rows) (λ _. refl) here in
    let os : e.objectives ++ objectives ≡ d.objectives ++ [] =
    ap (λ (x : Draft). x.objectives ++ objectives) adds.added ∙ ap (λ (xs : List Objective). d.objectives ++ xs) none in
    let rs : e.linear ++ rows ≡ d.linear ++ row ∷ rows =
    ap (λ (x : Draft). x.linear ++ rows) adds.added ∙ append_assoc d.linear (row ∷ []) rows in
    rw (os, rs) whole

-- the limits of a draft with a statement more
objectives_push : (os : List Objective) (o : Objective) → largest_in_objectives (os ++ o ∷ []) ≡ max (largest_in_objectives os) (largest_of o.terms)
objectives_push [] o = omega arith
objectives_push (x ∷ os) o = omega (arith, objectives_push os o)

rows_push : (rows : List Linear) (row : Linear) → largest_in_rows (rows ++ row ∷ []) ≡ max (largest_in_rows rows) (largest_of row.terms)
rows_push [] row = omega arith
rows_push (x ∷ rows) row = omega (arith, rows_push rows row)

objective_draft : (sense : Sense) (old new : Stream) (d e : Draft) → AddsObjective sense old new d e → IsDraft d → IsDraft e
objective_draft sense old new d e adds draft =
    let o = adds.objective in
    subst IsDraft (sym adds.added) (record {
      variables = omega (arith, draft.variables, adds.read.largest, objectives_push d.objectives o);
      within = omega (arith, draft.within, adds.read.within);
      count = omega (arith, adds.room, length_push d.objectives o);
      objectives = All-push (λ (x : Objective). objective_magnitude x < 2 ^ 63) d.objectives o draft.objectives adds.read.magnitude;
      rows = draft.rows;
    })

row_draft : (first : Token) (old new : Stream) (d e : Draft) → AddsRow first old new d e → IsDraft d → IsDraft e
row_draft first old new d e adds draft =
    let row = adds.row in
    let read = adds.read in
    subst IsDraft (sym adds.added) (record {
      variables = omega (arith, draft.variables, read.largest, rows_push d.linear row);
      within = omega (arith, draft.within, read.within);
      count = draft.count;
      objectives = draft.objectives;
      rows = All-push (λ (x : Linear). row_magnitude x < 2 ^ 63) d.linear row draft.rows read.magnitude;
    })

pub objective_adds : (first : Token) (sense : Sense) (old new : Stream) (d e : Draft) → first ≡ Head sense → AddsObjective sense old new d e
    → AddsStatement first old new d e
objective_adds first sense old new d e is adds = record {
  draft = objective_draft sense old new d e adds;
  spelled = λ all so_far. objective_goes_on sense old new all d e adds (subst (λ (t : Token). GoesOn all (t ∷ plain old.left) d) is so_far);
}

pub row_adds : (first : Token) (old new : Stream) (d e : Draft) → AddsRow first old new d e → AddsStatement first old new d e
row_adds first old new d e adds = record {
  draft = row_draft first old new d e adds;
  spelled = λ all so_far. row_goes_on first old new all d e adds so_far;
}

-- no statement is read yet
pub none_read : (all left : List Token) (d : Draft) → left ≡ all → d.objectives ≡ [] → d.linear ≡ [] → GoesOn all left d
none_read all left d same no_objectives no_rows objectives rows ordered spelled =
    rw (no_objectives, no_rows) (subst (SpellsStatements objectives rows) same spelled)

pub went_on : (all left now : List Token) (d : Draft) → left ≡ now → GoesOn all left d → GoesOn all now d
went_on all left now d e so_far = subst (λ (ts : List Token). GoesOn all ts d) e so_far

-- all statements are read
pub all_read : (all left : List Token) (d : Draft) → left ≡ [] → GoesOn all left d → SpellsStatements d.objectives d.linear all
all_read all left d none so_far =
    let whole : SpellsStatements (d.objectives ++ []) (d.linear ++ []) all = so_far [] [] (λ _. refl) none in
    subst (λ (rows : List Linear). SpellsStatements d.objectives rows all) (append-nil d.linear)
    (subst (λ (os : List Objective). SpellsStatements os (d.linear ++ []) all) (append-nil d.objectives) whole)

-- ---- how far a draft with a statement more is

any_push : {X : Type 0} (xs : List X) (x : X) → has_any (xs ++ x ∷ []) ≡ true
any_push [] x = refl
any_push (y ∷ xs) x = refl

abbrev pub with_objective : Draft → Progress
with_objective d = record { objectives = length d.objectives + 1; rows = false; place = Start }

abbrev pub with_row : Draft → Progress
with_row d = record { objectives = length d.objectives; rows = true; place = Start }

opened : (b c : Bool) (wrong many begun : Progressed) → b ≡ false → c ≡ true → (if b then wrong else if c then begun else many) ≡ begun
opened b c wrong many begun first second = rw (first, second) refl

pub head_fits : (s : Stream) (d : Draft) → d.linear ≡ [] → length d.objectives < 64
    → fault_after s (head_begun (progress_of d)) ≡ fault_at s (with_objective d) Begun
head_fits s d none room = ap (fault_after s)
    (opened (has_any d.linear) (nat_lt (length d.objectives) 64) _ _ _ (ap has_any none) (below (length d.objectives) 64 room))

abbrev fault_of : Stream → ℕ → Bool → Option ReadFault
fault_of s objectives rows = fault_from s.last (record { objectives = objectives; rows = rows; place = Start }) s.left

pub objective_progress : (s : Stream) (d e : Draft) (o : Objective) → d.linear ≡ [] → e.objectives ≡ d.objectives ++ o ∷ []
    → e.linear ≡ d.linear → fault_at s (with_objective d) Start ≡ draft_fault s e
objective_progress s d e o none added same =
    ap (λ n. fault_of s n false) (sym (ap length added ∙ length_push d.objectives o))
    ∙ ap (fault_of s (length e.objectives)) (sym (ap has_any (same ∙ none)))

pub row_progress : (s : Stream) (d e : Draft) (row : Linear) → e.linear ≡ d.linear ++ row ∷ [] → e.objectives ≡ d.objectives
    → fault_at s (with_row d) Start ≡ draft_fault s e
row_progress s d e row added same =
    ap (fault_of s (length d.objectives)) (sym (ap has_any added ∙ any_push d.linear row))
    ∙ ap (λ (os : List Objective). fault_of s (length os) (has_any e.linear)) (sym same)

pub none_faulty : (text : List ℕ) (s : Stream) (d : Draft) → s.left ≡ numbered_tokens 1 (lines_of text)
    → s.last ≡ length (lines_of text) → d.objectives ≡ [] → d.linear ≡ [] → first_fault text ≡ draft_fault s d
none_faulty text s d left last no_objectives no_rows = rw (left, last, no_objectives, no_rows) refl
