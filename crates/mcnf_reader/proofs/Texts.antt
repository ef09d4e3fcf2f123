-- What lines spell, from first to last.
use Rattle.std.proofs.Common.{◌≡◌, ℕ, ◌+◌, Bool, List, [], ◌∷◌, ◌++◌, length, map, None, refl, sym, ap, ◌∙◌, subst, append_assoc, append-nil, arith}
use Rattle.std.specs.Prelude.{codes, slice_index}
use Rattle.std.specs.Option.{option_map}
use Rattle.std.specs.List.{AllZip}
use Rattle.std.proofs.lemmas.List.{length_push, length-append, length-map}
use Rattle.instance.specs.declared.row.Linear.{Linear}
use Rattle.instance.specs.declared.objective.Objective.{Objective}
use Rattle.instance.specs.declared.fault.ReadFault.{ReadFault}
use Rattle.instance.specs.Reading.{at_line, IsFaultOf}
use Rattle.instance.specs.Shape.{InstanceValue}
use Rattle.scut_base.specs.Literal.{Literal}
use Rattle.mcnf_reader.specs.declared.draft.Draft.{Draft}
use Rattle.mcnf_reader.specs.declared.statement.Statement.{Statement}
use Rattle.mcnf_reader.specs.declared.statement.Statement.TheVariants.{Nothing, Hard, Soft as SoftIn}
use Rattle.mcnf_reader.specs.Words.{words_of, lines_of}
use Rattle.mcnf_reader.specs.Grammar.{Spells, largest_variable, hard_clauses, objectives_of, SpellsStatement, SpellsClause, SpellsLiteral}
use Rattle.mcnf_reader.specs.Draft.{IsReady, IsDraftOf}
use Rattle.mcnf_reader.specs.Reads.{IsReadAs}
use Rattle.mcnf_reader.specs.FirstFault.{line_fault, fault_after, first_fault}
use Rattle.mcnf_reader.specs.LineLimits.{IsStatementWithin, IsSumsOf}
use Rattle.mcnf_reader.proofs.Clauses.{not_both}
use Rattle.scut_base.proofs.Options.{or_at_none, map_at_none}
use Rattle.mcnf_reader.proofs.FaultChoice.{fault_first, fault_same}
use Rattle.mcnf_reader.proofs.StatementFaults.{line_none, sums_same}

abbrev pub SpellAll : List (List ℕ) → List Statement → Type 0
SpellAll lines statements = AllZip SpellsStatement (map words_of lines) statements

-- The lines before these were read: they have no fault, and their statements make the draft.
pub record IsReadTo (lines rest : List (List ℕ)) (number : ℕ) (d : Draft) : Type 0 where
  pub before : List (List (List ℕ))
  pub done : List Statement
  pub whole : before ++ map words_of rest ≡ map words_of lines
  pub numbered : number ≡ length before
  pub spelled : AllZip SpellsStatement before done
  pub faultless : fault_after [] (map words_of lines) ≡ fault_after before (map words_of rest)
  pub draft : IsDraftOf d done

abbrev literal_from : ℕ → Bool → Literal
literal_from var neg = record { var = var; neg = neg }

-- a word is one literal at most
one_literal : (word : List ℕ) (k l : Literal) → SpellsLiteral word k → SpellsLiteral word l → k ≡ l
one_literal word k l left right =
    let var : k.var ≡ l.var = sym left.variable ∙ right.variable in
    let neg : k.neg ≡ l.neg = sym left.sign ∙ right.sign in
    ap (λ v. literal_from v k.neg) var ∙ ap (literal_from l.var) neg

first_h : (word : List ℕ) → word ≡ codes "h" → slice_index word 0 ≡ 104
first_h word h = ap (λ w. slice_index w 0) h

one_clause : (words : List (List ℕ)) (ks ls : List Literal) → SpellsClause words ks → SpellsClause words ls → ks ≡ ls
one_clause [] ks ls left right = absurd left
one_clause (word ∷ []) [] [] left right = refl
one_clause (word ∷ []) [] (l ∷ ls) left right = absurd (not_both word l right.0 left)
one_clause (word ∷ []) (k ∷ ks) [] left right = absurd (not_both word k left.0 right)
one_clause (word ∷ []) (k ∷ ks) (l ∷ ls) left right = absurd left.1
one_clause (word ∷ next ∷ words) [] ls left right = absurd left
one_clause (word ∷ next ∷ words) (k ∷ ks) [] left right = absurd right
one_clause (word ∷ next ∷ words) (k ∷ ks) (l ∷ ls) left right =
    let first : k ≡ l = one_literal word k l left.0 right.0 in
    let rest : ks ≡ ls = one_clause (next ∷ words) ks ls left.1 right.1 in
    ap (λ x. x ∷ ks) first ∙ ap (λ xs. l ∷ xs) rest

-- a line spells one statement at most
pub one_statement : (words : List (List ℕ)) (s t : Statement) → SpellsStatement words s → SpellsStatement words t → s ≡ t
one_statement words Nothing Nothing left right = refl
one_statement [] Nothing (Hard ls) left right = absurd right
one_statement [] Nothing (SoftIn o w ls) left right = absurd right
one_statement [] (Hard ks) t left right = absurd left
one_statement [] (SoftIn o w ks) t left right = absurd left
one_statement (word ∷ words) Nothing (Hard ls) left right = absurd (omega (arith, left, first_h word right.0))
one_statement (word ∷ words) (Hard ks) Nothing left right = absurd (omega (arith, right, first_h word left.0))
one_statement (word ∷ words) (Hard ks) (Hard ls) left right = ap Hard (one_clause words ks ls left.1 right.1)
one_statement (word ∷ []) Nothing (SoftIn o w ls) left right = absurd right
one_statement (word ∷ []) (Hard ks) (SoftIn o w ls) left right = absurd right
one_statement (word ∷ []) (SoftIn o w ks) t left right = absurd left
one_statement (word ∷ second ∷ words) Nothing (SoftIn o w ls) left right = absurd (omega (arith, left, right.0.letter))
one_statement (word ∷ second ∷ words) (Hard ks) (SoftIn o w ls) left right = absurd (omega (arith, first_h word left.0, right.0.letter))
one_statement (word ∷ second ∷ words) (SoftIn o w ks) Nothing left right = absurd (omega (arith, right, left.0.letter))
one_statement (word ∷ second ∷ words) (SoftIn o w ks) (Hard ls) left right = absurd (omega (arith, first_h word right.0, left.0.letter))
one_statement (word ∷ second ∷ words) (SoftIn o w ks) (SoftIn p v ls) left right =
    let objective : o ≡ p = sym left.0.value ∙ right.0.value in
    let weight : w ≡ v = sym left.1.1 ∙ right.1.1 in
    let lits : ks ≡ ls = one_clause words ks ls left.2 right.2 in
    ap (λ x. SoftIn x w ks) objective ∙ ap (λ x. SoftIn p x ks) weight ∙ ap (SoftIn p v) lits

-- lines spell one list of statements at most
pub one_reading : (lines : List (List ℕ)) (xs ys : List Statement) → SpellAll lines xs → SpellAll lines ys → xs ≡ ys
one_reading [] [] [] left right = refl
one_reading [] [] (y ∷ ys) left right = absurd right
one_reading [] (x ∷ xs) ys left right = absurd left
one_reading (line ∷ lines) [] ys left right = absurd left
one_reading (line ∷ lines) (x ∷ xs) [] left right = absurd right
one_reading (line ∷ lines) (x ∷ xs) (y ∷ ys) left right =
    let first : x ≡ y = one_statement (words_of line) x y left.0 right.0 in
    let rest : xs ≡ ys = one_reading lines xs ys left.1 right.1 in
    ap (λ z. z ∷ xs) first ∙ ap (λ zs. y ∷ zs) rest

abbrev pub instance_from : ℕ → List (List Literal) → List Linear → List Objective → InstanceValue
instance_from vars clauses linear objectives = record { vars = vars; clauses = clauses; linear = linear; objectives = objectives }

-- a text spells one instance at most
pub one_spelled : (text : List ℕ) (i j : InstanceValue) → Spells text i → Spells text j → i ≡ j
one_spelled text i j left right =
    let same : left.statements ≡ right.statements = one_reading (lines_of text) left.statements right.statements left.lines right.lines in
    let vars : i.vars ≡ j.vars = left.variables ∙ ap largest_variable same ∙ sym right.variables in
    let clauses : i.clauses ≡ j.clauses = left.clauses ∙ ap hard_clauses same ∙ sym right.clauses in
    let linear : i.linear ≡ j.linear = left.rows ∙ sym right.rows in
    let objectives : i.objectives ≡ j.objectives = left.objectives ∙ ap objectives_of same ∙ sym right.objectives in
    ap (λ x. instance_from x i.clauses i.linear i.objectives) vars ∙ ap (λ x. instance_from j.vars x i.linear i.objectives) clauses ∙ ap (λ x. instance_from j.vars j.clauses x i.objectives) linear ∙ ap (instance_from j.vars j.clauses j.linear) objectives

-- one line more
pub spelled_push : (before : List (List (List ℕ))) (done : List Statement) (words : List (List ℕ)) (s : Statement) → AllZip SpellsStatement before done → SpellsStatement words s → AllZip SpellsStatement (before ++ words ∷ []) (done ++ s ∷ [])
spelled_push [] [] words s spelled says = (says, tt)
spelled_push [] (t ∷ done) words s spelled says = absurd spelled
spelled_push (line ∷ before) [] words s spelled says = absurd spelled
spelled_push (line ∷ before) (t ∷ done) words s spelled says = (spelled.0, spelled_push before done words s spelled.1 says)

-- after a line without a fault the fault is that of the lines left
pub fault_on : (before : List (List (List ℕ))) (words : List (List ℕ)) (lines : List (List (List ℕ))) → line_fault before words ≡ None → fault_after before (words ∷ lines) ≡ fault_after (before ++ words ∷ []) lines
fault_on before words lines none = or_at_none (option_map (at_line (length before + 1)) (line_fault before words)) (fault_after (before ++ words ∷ []) lines) (map_at_none (at_line (length before + 1)) (line_fault before words) none)

pub sums_of : (d : Draft) (before : List (List (List ℕ))) (done : List Statement) → AllZip SpellsStatement before done → IsDraftOf d done → IsSumsOf before d.sums
sums_of d before done spelled draft = draft.weights ∙ sums_same before done spelled

pub read_on : (lines rest left : List (List ℕ)) (line : List ℕ) (number : ℕ) (d e : Draft) (s : Statement) → rest ≡ line ∷ left → SpellsStatement (words_of line) s → IsStatementWithin d.sums s → ((done : List Statement) → IsDraftOf d done → IsDraftOf e (done ++ s ∷ [])) → IsReadTo lines rest number d → IsReadTo lines left (number + 1) e
read_on lines rest left line number d e s cut says within added so_far =
    let cut_words : map words_of rest ≡ words_of line ∷ map words_of left = ap (map words_of) cut in
    let none : line_fault so_far.before (words_of line) ≡ None = line_none so_far.before d.sums (sums_of d so_far.before so_far.done so_far.spelled so_far.draft) (words_of line) s says within in
    record {
      before = so_far.before ++ words_of line ∷ [];
      done = so_far.done ++ s ∷ [];
      whole = append_assoc so_far.before (words_of line ∷ []) (map words_of left) ∙ ap (λ more. so_far.before ++ more) (sym cut_words) ∙ so_far.whole;
      numbered = omega (arith, so_far.numbered, length_push so_far.before (words_of line));
      spelled = spelled_push so_far.before so_far.done (words_of line) s so_far.spelled says;
      faultless = so_far.faultless ∙ ap (fault_after so_far.before) cut_words ∙ fault_on so_far.before (words_of line) (map words_of left) none;
      draft = added so_far.done so_far.draft;
    }

-- no line is read yet
pub read_none : (lines : List (List ℕ)) (d : Draft) → IsDraftOf d [] → IsReadTo lines lines 0 d
read_none lines d empty = record {
  before = [];
  done = [];
  whole = refl;
  numbered = refl;
  spelled = tt;
  faultless = refl;
  draft = empty;
}

-- all lines are read
pub read_all : (text : List ℕ) (rest : List (List ℕ)) (number : ℕ) (d : Draft) → rest ≡ [] → IsReady d → IsReadTo (lines_of text) rest number d → IsReadAs text d
read_all text rest number d none ready so_far =
    let whole : so_far.before ≡ map words_of (lines_of text) = sym (append-nil so_far.before) ∙ ap (λ (ls : List (List ℕ)). so_far.before ++ map words_of ls) (sym none) ∙ so_far.whole in
    record {
      statements = so_far.done;
      lines = subst (λ (ls : List (List (List ℕ))). AllZip SpellsStatement ls so_far.done) whole so_far.spelled;
      ready = ready;
      draft = so_far.draft;
    }

-- the fault of the next line is the first of the text
pub next_wrong : (text : List ℕ) (rest left : List (List ℕ)) (line : List ℕ) (number : ℕ) (d : Draft) (f : ReadFault) → rest ≡ line ∷ left → IsReadTo (lines_of text) rest number d → ((before : List (List (List ℕ))) → IsSumsOf before d.sums → IsFaultOf (option_map (at_line (number + 1)) (line_fault before (words_of line))) f) → IsFaultOf (first_fault text) f
next_wrong text rest left line number d f cut so_far wrong =
    let before = so_far.before in
    let here : IsFaultOf (option_map (at_line (number + 1)) (line_fault before (words_of line))) f = wrong before (sums_of d before so_far.done so_far.spelled so_far.draft) in
    let there : IsFaultOf (option_map (at_line (length before + 1)) (line_fault before (words_of line))) f = subst (λ (n : ℕ). IsFaultOf (option_map (at_line (n + 1)) (line_fault before (words_of line))) f) so_far.numbered here in
    let first : IsFaultOf (fault_after before (words_of line ∷ map words_of left)) f = fault_first (option_map (at_line (length before + 1)) (line_fault before (words_of line))) (fault_after (before ++ words_of line ∷ []) (map words_of left)) f there in
    fault_same (fault_after before (words_of line ∷ map words_of left)) (first_fault text) f (so_far.faultless ∙ ap (λ (ls : List (List ℕ)). fault_after before (map words_of ls)) cut) first

-- the number of a line is at most the count of lines
pub number_below : (lines rest : List (List ℕ)) (number : ℕ) (d : Draft) → IsReadTo lines rest number d → number + length rest ≡ length lines
number_below lines rest number d so_far = omega (arith, so_far.numbered, length-append so_far.before (map words_of rest), ap length so_far.whole, length-map rest words_of, length-map lines words_of)
