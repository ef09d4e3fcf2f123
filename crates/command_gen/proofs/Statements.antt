-- Statements are spelled by their printed words.
use Rattle.std.proofs.Common.{◌≡◌, ℕ, ◌+◌, ◌<◌, ◌^◌, ◌==◌, Bool, true, false, List, [], ◌∷◌, ◌++◌, length, map, take, get_or, refl, sym, ap, ◌∙◌, append_assoc, append-nil, arith}
use Rattle.std.specs.Prelude.{All, codes, slice_index}
use Rattle.std.specs.Fmt.{decimal}
use Rattle.std.specs.List.{AllZip, flat_map}
use Rattle.std.specs.Str.Parse.{AllDigits, IsNumeral, digits_value}
use Rattle.std.specs.Int.{IsInRange}
use Rattle.std.proofs.lemmas.Bool.{ne_eqb}
use Rattle.std.proofs.lemmas.List.{length-take-le, take_more}
use Rattle.std.proofs.lemmas.List.Elements.{All-cons, All-head, All-nil, All-tail}
use Rattle.std.proofs.lemmas.Fmt.{decimal_is_IsNumeral}
use Rattle.std.proofs.lemmas.Str.Parse.{digit_from_value}
use Rattle.scut_base.specs.Literal.{Literal}
use Rattle.instance.specs.declared.objective.Soft.{Soft}
use Rattle.instance.specs.declared.objective.Objective.{Objective}
use Rattle.mcnf_reader.specs.declared.statement.Statement.{Statement}
use Rattle.mcnf_reader.specs.declared.statement.Statement.TheVariants.{Nothing, Hard, Soft as SoftIn}
use Rattle.mcnf_reader.specs.Grammar.{SpellsClause, SpellsLiteral, SpellsStatement}
use Rattle.command_gen.specs.Printed.{AreVariables, IsPrintable, IsVariable, clause_text, hard_line, literal_text, sign_text, soft_line, soft_lines, soft_statements}
use Rattle.command_gen.proofs.PrintedWords.{AreWords, IsLine, IsWord, line_of, spaced}
use Rattle.command_gen.proofs.Lines.{AreLines, text_of}

-- ---- the words of a statement

abbrev pub literal_word : Literal → List ℕ
literal_word l = sign_text l.neg ++ decimal l.var

abbrev pub clause_words : List Literal → List (List ℕ)
clause_words [] = codes "0" ∷ []
clause_words (l ∷ lits) = literal_word l ∷ clause_words lits

abbrev pub statement_words : Statement → List (List ℕ)
statement_words Nothing = []
statement_words (Hard lits) = codes "h" ∷ clause_words lits
statement_words (SoftIn k weight lits) = (codes "o" ++ decimal k) ∷ decimal weight ∷ clause_words lits

-- a clause whose numbers are printed right
abbrev pub CanBeSaid : Statement → Type 0
CanBeSaid Nothing = ⊥
CanBeSaid (Hard lits) = AreVariables lits
CanBeSaid (SoftIn k weight lits) = ((0 < k) × (k < 2 ^ 64)) × (weight < 2 ^ 64) × AreVariables lits

abbrev pub AllCanBeSaid : List Statement → Type 0
AllCanBeSaid [] = Unit {0}
AllCanBeSaid (s ∷ statements) = CanBeSaid s × AllCanBeSaid statements

pub AllCanBeSaid-append : (first second : List Statement) → AllCanBeSaid first → AllCanBeSaid second → AllCanBeSaid (first ++ second)
AllCanBeSaid-append [] second left right = right
AllCanBeSaid-append (s ∷ statements) second left right = (left.0, AllCanBeSaid-append statements second left.1 right)

-- ---- their text

-- pieces in another grouping
four : (a b c d : List ℕ) → ((a ++ b) ++ c) ++ d ≡ a ++ ((b ++ c) ++ d)
four a b c d = simp append_assoc

cut_line : (a b rest : List ℕ) → (a ++ (b ++ 10 ∷ [])) ++ rest ≡ (a ++ b) ++ (10 ∷ rest)
cut_line a b rest = simp append_assoc

end_line : (a b c : List ℕ) → (a ++ b) ++ (c ++ 10 ∷ []) ≡ (a ++ (b ++ c)) ++ 10 ∷ []
end_line a b c = simp append_assoc

clause_said : (lits : List Literal) → clause_text lits ≡ spaced (clause_words lits) ++ 10 ∷ []
clause_said [] = refl
clause_said (l ∷ lits) =
    four (literal_text l) (flat_map literal_text lits) (codes " 0") (10 ∷ [])
    ∙ ap (λ rest. literal_text l ++ rest) (clause_said lits)
    ∙ sym (append_assoc (literal_text l) (spaced (clause_words lits)) (10 ∷ []))

pub hards_said : (clauses : List (List Literal)) → flat_map hard_line clauses ≡ text_of (map statement_words (map Hard clauses))
hards_said [] = refl
hards_said (lits ∷ clauses) =
    ap (λ text. (codes "h" ++ text) ++ flat_map hard_line clauses) (clause_said lits)
    ∙ ap (λ rest. (codes "h" ++ (spaced (clause_words lits) ++ 10 ∷ [])) ++ rest) (hards_said clauses)
    ∙ cut_line (codes "h") (spaced (clause_words lits)) (text_of (map statement_words (map Hard clauses)))

soft_said : (k : ℕ) (soft : Soft) → soft_line k soft ≡ line_of (statement_words (SoftIn k soft.weight soft.lits)) ++ 10 ∷ []
soft_said k soft =
    ap (λ text. ((codes "o" ++ decimal k) ++ (32 ∷ decimal soft.weight)) ++ text) (clause_said soft.lits)
    ∙ end_line (codes "o" ++ decimal k) (32 ∷ decimal soft.weight) (spaced (clause_words soft.lits))

softs_said : (k : ℕ) (softs : List Soft) → flat_map (soft_line k) softs ≡ text_of (map statement_words (map (λ (soft : Soft). SoftIn k soft.weight soft.lits) softs))
softs_said k [] = refl
softs_said k (soft ∷ softs) =
    ap (λ line. line ++ flat_map (soft_line k) softs) (soft_said k soft)
    ∙ append_assoc (line_of (statement_words (SoftIn k soft.weight soft.lits))) (10 ∷ []) (flat_map (soft_line k) softs)
    ∙ ap (λ rest. line_of (statement_words (SoftIn k soft.weight soft.lits)) ++ 10 ∷ rest) (softs_said k softs)

-- ---- words

digit_high : (b : ℕ) (ds : List ℕ) → AllDigits 10 (b ∷ ds) → 32 < b
digit_high b ds all = let range : IsInRange 48 57 b = digit_from_value b all.0 in omega (arith, range.0)

digits_high : (ds : List ℕ) → AllDigits 10 ds → All (λ b. 32 < b) ds
digits_high [] all = All-nil (λ b. 32 < b)
digits_high (b ∷ ds) all = All-cons (λ b. 32 < b) b ds (digit_high b ds all) (digits_high ds all.1)

number_is_word : (n : ℕ) → n < 2 ^ 64 → IsWord (decimal n)
number_is_word n small = let numeral = decimal_is_IsNumeral n small in (numeral.0.0, digits_high (decimal n) numeral.0.1)

-- a byte above a blank stands before a word
longer_word : (b : ℕ) (word : List ℕ) → 32 < b → IsWord word → IsWord (b ∷ word)
longer_word b word above is = (omega arith, All-cons (λ b. 32 < b) b word above is.1)

literal_is_word : (l : Literal) → l.var < 2 ^ 63 → IsWord (literal_word l)
literal_is_word l small = by l.neg
  where
    by : (neg : Bool) → IsWord (sign_text neg ++ decimal l.var)
    by true = longer_word 45 (decimal l.var) (omega arith) (number_is_word l.var (omega arith))
    by false = number_is_word l.var (omega arith)

one_byte : (b : ℕ) → 32 < b → IsWord (b ∷ [])
one_byte b above = (omega arith, All-cons (λ b. 32 < b) b [] above (All-nil (λ b. 32 < b)))

clause_is_words : (lits : List Literal) → AreVariables lits → AreWords (clause_words lits)
clause_is_words [] are = (one_byte 48 (omega arith), tt)
clause_is_words (l ∷ lits) are = (literal_is_word l (All-head IsVariable l lits are).1, clause_is_words lits (All-tail IsVariable l lits are))

statement_is_line : (s : Statement) → CanBeSaid s → IsLine (statement_words s)
statement_is_line Nothing can = absurd can
statement_is_line (Hard lits) can = (one_byte 104 (omega arith), clause_is_words lits can)
statement_is_line (SoftIn k weight lits) can =
    (longer_word 111 (decimal k) (omega arith) (number_is_word k can.0.1), (number_is_word weight can.1, clause_is_words lits can.2))

pub statements_are_lines : (statements : List Statement) → AllCanBeSaid statements → AreLines (map statement_words statements)
statements_are_lines [] can = tt
statements_are_lines (s ∷ statements) can = (statement_is_line s can.0, statements_are_lines statements can.1)

-- ---- what they spell

-- a number's text doesn't begin with a minus
no_minus : (n : ℕ) → n < 2 ^ 64 → (slice_index (decimal n) 0 == 45) ≡ false
no_minus n small =
    let is = number_is_word n small in
    by (decimal n) (decimal_is_IsNumeral n small).0
  where
    by : (ds : List ℕ) → IsNumeral 10 ds → (slice_index ds 0 == 45) ≡ false
    by [] numeral = absurd (omega (arith, numeral.0))
    by (b ∷ ds) numeral =
        let range : IsInRange 48 57 b = digit_from_value b numeral.1.0 in
        ne_eqb b 45 (λ e. absurd (omega (arith, range.0)))

literal_spelled : (l : Literal) → IsVariable l → SpellsLiteral (literal_word l) l
literal_spelled l is = by l.neg refl
  where
    numeral : IsNumeral 10 (decimal l.var) × (digits_value 10 (decimal l.var) ≡ l.var)
    numeral = decimal_is_IsNumeral l.var (omega (arith, is.1))

    plain : (slice_index (decimal l.var) 0 == 45) ≡ false
    plain = no_minus l.var (omega (arith, is.1))

    by : (neg : Bool) → l.neg ≡ neg → SpellsLiteral (sign_text neg ++ decimal l.var) l
    by true e = record { number = numeral.0; variable = numeral.1; sign = sym e; positive = is.0 }
    by false e = record {
      number = rw plain numeral.0;
      variable = rw plain numeral.1;
      sign = plain ∙ sym e;
      positive = is.0;
    }

clause_spelled : (lits : List Literal) → AreVariables lits → SpellsClause (clause_words lits) lits
clause_spelled [] are = (((omega arith, (omega arith, tt))), refl)
clause_spelled (l ∷ []) are = (literal_spelled l (All-head IsVariable l [] are), ((omega arith, (omega arith, tt)), refl))
clause_spelled (l ∷ m ∷ lits) are =
    (literal_spelled l (All-head IsVariable l (m ∷ lits) are), clause_spelled (m ∷ lits) (All-tail IsVariable l (m ∷ lits) are))

statement_spelled : (s : Statement) → CanBeSaid s → SpellsStatement (statement_words s) s
statement_spelled Nothing can = absurd can
statement_spelled (Hard lits) can = (refl, clause_spelled lits can)
statement_spelled (SoftIn k weight lits) can =
    let objective = decimal_is_IsNumeral k can.0.1 in
    let number = decimal_is_IsNumeral weight can.1 in
    (record { letter = refl; number = objective.0; value = objective.1; positive = can.0.0 }, (number.0, number.1), clause_spelled lits can.2)

-- and a line without words spells nothing
pub statements_spelled : (statements : List Statement) → AllCanBeSaid statements → AllZip SpellsStatement (map statement_words statements ++ [] ∷ []) (statements ++ Nothing ∷ [])
statements_spelled [] can = (tt, tt)
statements_spelled (s ∷ statements) can = (statement_spelled s can.0, statements_spelled statements can.1)

-- ---- the statements of an instance

pub hards_can : (clauses : List (List Literal)) → All AreVariables clauses → AllCanBeSaid (map Hard clauses)
hards_can [] all = tt
hards_can (lits ∷ clauses) all = (All-head AreVariables lits clauses all, hards_can clauses (All-tail AreVariables lits clauses all))

softs_can : (k : ℕ) (softs : List Soft) → 0 < k → k < 2 ^ 64 → All IsPrintable softs → AllCanBeSaid (map (λ (soft : Soft). SoftIn k soft.weight soft.lits) softs)
softs_can k [] some small all = tt
softs_can k (soft ∷ softs) some small all =
    let is : IsPrintable soft = All-head IsPrintable soft softs all in
    (((some, small), is.weight, is.lits), softs_can k softs some small (All-tail IsPrintable soft softs all))

abbrev pub ArePrintable : Objective → Type 0
ArePrintable o = All IsPrintable o.softs

pub soft_statements_can : (k : ℕ) (objectives : List Objective) → 0 < k → k + length objectives < 2 ^ 64 → All ArePrintable objectives → AllCanBeSaid (soft_statements k objectives)
soft_statements_can k [] some small all = tt
soft_statements_can k (o ∷ objectives) some small all =
    AllCanBeSaid-append (map (λ (soft : Soft). SoftIn k soft.weight soft.lits) o.softs) (soft_statements (k + 1) objectives)
    (softs_can k o.softs some (omega arith) (All-head ArePrintable o objectives all))
    (soft_statements_can (k + 1) objectives (omega arith) (omega arith) (All-tail ArePrintable o objectives all))

map_words_append : (first second : List Statement) → text_of (map statement_words (first ++ second)) ≡ text_of (map statement_words first) ++ text_of (map statement_words second)
map_words_append [] second = refl
map_words_append (s ∷ statements) second =
    ap (λ rest. line_of (statement_words s) ++ 10 ∷ rest) (map_words_append statements second)
    ∙ sym (append_assoc (line_of (statement_words s)) (10 ∷ text_of (map statement_words statements)) (text_of (map statement_words second)))

soft_lines_said : (k : ℕ) (objectives : List Objective) → soft_lines k objectives ≡ text_of (map statement_words (soft_statements k objectives))
soft_lines_said k [] = refl
soft_lines_said k (o ∷ objectives) =
    ap (λ text. text ++ soft_lines (k + 1) objectives) (softs_said k o.softs)
    ∙ ap (λ rest. text_of (map statement_words (map (λ (soft : Soft). SoftIn k soft.weight soft.lits) o.softs)) ++ rest) (soft_lines_said (k + 1) objectives)
    ∙ sym (map_words_append (map (λ (soft : Soft). SoftIn k soft.weight soft.lits) o.softs) (soft_statements (k + 1) objectives))

pub all_said : (clauses : List (List Literal)) (objectives : List Objective) → flat_map hard_line clauses ++ soft_lines 1 objectives ≡ text_of (map statement_words (map Hard clauses ++ soft_statements 1 objectives))
all_said clauses objectives =
    ap (λ text. text ++ soft_lines 1 objectives) (hards_said clauses)
    ∙ ap (λ rest. text_of (map statement_words (map Hard clauses)) ++ rest) (soft_lines_said 1 objectives)
    ∙ sym (map_words_append (map Hard clauses) (soft_statements 1 objectives))

-- one objective more
pub soft_lines-push : (k n : ℕ) (objectives : List Objective) (o : Objective) → k + length objectives ≡ n → soft_lines k (objectives ++ o ∷ []) ≡ soft_lines k objectives ++ flat_map (soft_line n) o.softs
soft_lines-push k n [] o is = append-nil (flat_map (soft_line k) o.softs) ∙ ap (λ j. flat_map (soft_line j) o.softs) (omega (arith, is))
soft_lines-push k n (first ∷ objectives) o is =
    ap (λ rest. flat_map (soft_line k) first.softs ++ rest) (soft_lines-push (k + 1) n objectives o (omega (arith, is)))
    ∙ sym (append_assoc (flat_map (soft_line k) first.softs) (soft_lines (k + 1) objectives) (flat_map (soft_line n) o.softs))

pub objective_more : (objectives : List Objective) (i n : ℕ) (o : Objective) (start old new : List ℕ) → i < length objectives → o ≡ get_or objectives i o → n ≡ i + 1
    → old ≡ start ++ soft_lines 1 (take i objectives) → new ≡ old ++ flat_map (soft_line n) o.softs → new ≡ start ++ soft_lines 1 (take (i + 1) objectives)
objective_more objectives i n o start old new within is number was now =
    let before : length (take i objectives) ≡ i = length-take-le i objectives (omega arith) in
    let more : take (i + 1) objectives ≡ take i objectives ++ o ∷ [] = take_more objectives i o within ∙ ap (λ (x : Objective). take i objectives ++ x ∷ []) (sym is) in
    now
    ∙ ap (λ text. text ++ flat_map (soft_line n) o.softs) was
    ∙ append_assoc start (soft_lines 1 (take i objectives)) (flat_map (soft_line n) o.softs)
    ∙ ap (λ text. start ++ text) (sym (soft_lines-push 1 n (take i objectives) o (omega (arith, before, number))) ∙ ap (soft_lines 1) (sym more))
