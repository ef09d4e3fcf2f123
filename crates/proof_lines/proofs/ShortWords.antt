-- First words of a text that are read in one pass.
use Rattle.std.proofs.Common.{◌≡◌, ℕ, ◌+◌, ◌-◌, ◌<◌, ◌≤◌, ◌^◌, Bool, true, false, if◌then◌else◌, List, [], ◌∷◌, ◌++◌, length, take, drop, get_or, Option, Some, None, IfSome, MatchBool, refl, sym, ap, subst, ◌∙◌, arith}
use denote.Ref.{Bor}
use Rattle.std.specs.Option.{option_copied}
use Rattle.std.specs.Fmt.{decimal}
use Rattle.std.specs.Int.{IsInRange}
use Rattle.std.specs.List.{All, onto_first}
use Rattle.std.specs.Str.Parse.{AllDigits, digits_value}
use Rattle.std.proofs.lemmas.Bool.{ne_eqb, le-ltb, lt-ltb}
use Rattle.std.proofs.lemmas.List.{append-nil, drop-drop, get_or-drop, get_or-take, length-drop, length-take-le, take-append-drop, take_rest}
use Rattle.std.proofs.lemmas.List.Elements.{All-nil, All-cons}
use Rattle.std.proofs.lemmas.List.Splits.{slice_split_none, slice_split_at, slice_split-cons_no}
use Rattle.std.proofs.lemmas.Str.Parse.{digit_from_value}
use Rattle.std.proofs.lemmas.Fmt.{decimal_digit}
use Rattle.scut_base.specs.Literal.{Literal}
use Rattle.proof_laws.specs.WellFormed.{IsId, IsVariable}
use Rattle.proof_lines.specs.LineText.{literal_word, variable_word}
use Rattle.proof_lines.specs.declared.spelling.Spelling.TheVariants.{Relative}
use Rattle.proof_lines.specs.Ids.{id_word, is_made}
use Rattle.proof_lines.specs.Reading.{IsLeading, IsPlain, is_space, term_words, words_from, words_left, words_of}
use Rattle.proof_lines.proofs.IdWords.{after_first, back_word}
use Rattle.proof_lines.proofs.Items.{Words}
use Rattle.proof_lines.proofs.Numbers.{digits_spell, powers}

digits_spaceless : (ds : List ℕ) → AllDigits 10 ds → All (λ b. is_space b ≡ false) ds
digits_spaceless [] digits = All-nil (λ b. is_space b ≡ false)
digits_spaceless (d ∷ ds) digits =
    let digit : IsInRange 48 57 d = digit_from_value d digits.0 in
    All-cons (λ b. is_space b ≡ false) d ds (ne_eqb d 32 (λ is. omega arith)) (digits_spaceless ds digits.1)

-- the digits are those of their number
leading_word : (text : List ℕ) (n len : ℕ) → IsPlain (take len text) → IsLeading text n len → take len text ≡ decimal n
leading_word text n len plain leads =
    let small : n < 10 ^ 18 = leads.small in
    digits_spell (take len text) n plain leads.digits leads.value (omega arith)

-- a number alone
pub number_last : (text : List ℕ) (n len : ℕ) → IsPlain (take len text) → IsLeading text n len → drop len text ≡ [] → words_of text ≡ decimal n ∷ []
number_last text n len plain leads none =
    let is : text ≡ take len text = sym (take-append-drop len text) ∙ ap (λ t. take len text ++ t) none ∙ append-nil (take len text) in
    ap words_of is ∙ slice_split_none is_space (take len text) (digits_spaceless (take len text) leads.digits) ∙ ap (λ w. w ∷ []) (leading_word text n len plain leads)

-- a number, and words after it
pub number_first : (text rest : List ℕ) (n len : ℕ) → IsPlain (take len text) → IsLeading text n len → drop len text ≡ 32 ∷ rest → words_of text ≡ decimal n ∷ words_of rest
number_first text rest n len plain leads follows =
    let is : text ≡ take len text ++ 32 ∷ rest = sym (take-append-drop len text) ∙ ap (λ t. take len text ++ t) follows in
    ap words_of is ∙ slice_split_at is_space (take len text) 32 rest (digits_spaceless (take len text) leads.digits) refl ∙ ap (λ w. w ∷ words_of rest) (leading_word text n len plain leads)

-- one byte more before the first word
pub longer_first : (b : ℕ) (text word : List ℕ) (words : Words) → is_space b ≡ false → words_of text ≡ word ∷ words → words_of (b ∷ text) ≡ (b ∷ word) ∷ words
longer_first b text word words other is = slice_split-cons_no is_space b text other ∙ ap (onto_first b) is

-- a text that begins with this byte, by what follows it
pub longer_word : (text : List ℕ) (b : ℕ) (word : List ℕ) (words : Words) → 0 < b → is_space b ≡ false → get_or text 0 0 ≡ b → words_of (take (length text - 1) (drop 1 text)) ≡ word ∷ words → words_of text ≡ (b ∷ word) ∷ words
longer_word text b word words some other first is = ap words_of (after_first text b some first) ∙ longer_first b (take (length text - 1) (drop 1 text)) word words other is

-- what the loop over digits has read
pub leads_so_far : (text : List ℕ) (n len : ℕ) → len ≤ length text → len ≤ 18 → AllDigits 10 (take len text) → n ≡ digits_value 10 (take len text) → n < 10 ^ len → IsLeading text n len
leads_so_far text n len within few digits value small =
    let wider : 10 ^ len ≤ 10 ^ 18 = powers len 18 few in
    record {
      within = within;
      digits = digits;
      value = value;
      small = omega arith;
    }

pub none_of : (xs : List ℕ) → length xs < 1 → xs ≡ []
none_of [] few = refl
none_of (x ∷ xs) few = absurd (omega arith)

-- `1`, and a literal after it
pub unit_first : (text rest : List ℕ) (l : Literal) (left : Words) → text ≡ 49 ∷ 32 ∷ rest → words_of rest ≡ literal_word l ∷ left → words_of text ≡ term_words (l, 1) ++ left
unit_first text rest l left is spelled =
    ap words_of is
    ∙ slice_split_at is_space (49 ∷ []) 32 rest (All-cons (λ b. is_space b ≡ false) 49 [] refl (All-nil (λ b. is_space b ≡ false))) refl
    ∙ ap (λ ws. (49 ∷ []) ∷ ws) spelled
    ∙ ap (λ w. w ∷ literal_word l ∷ left) (sym (decimal_digit 1 (omega arith)))

-- the bytes after the first two
pub after_two : (text : List ℕ) (a b : ℕ) → 2 ≤ length text → get_or text 0 0 ≡ a → get_or text 1 0 ≡ b → text ≡ a ∷ b ∷ take (length text - 2) (drop 2 text)
after_two [] a b long first second = absurd (omega arith)
after_two (x ∷ []) a b long first second = absurd (omega arith)
after_two (x ∷ y ∷ zs) a b long first second = ap (λ c. c ∷ y ∷ zs) first ∙ ap (λ c. a ∷ c ∷ zs) second ∙ ap (λ cs. a ∷ b ∷ cs) (sym (take_rest (x ∷ y ∷ zs) 2))

-- ---- words from a place on

-- up to the end of the text
pub from_within : (text : List ℕ) (at : ℕ) → at ≤ length text → words_from text at ≡ words_of (drop at text)
from_within text at within = ap (λ b. if b then [] else words_of (drop at text)) (le-ltb (length text) at within)

-- past it
pub from_past : (text : List ℕ) (at : ℕ) → length text < at → words_from text at ≡ []
from_past text at past = ap (λ b. if b then [] else words_of (drop at text)) (lt-ltb (length text) at past)

pub some_first : (text : List ℕ) → IsInRange 49 57 (get_or text 0 0) → 0 < length text
some_first [] first = absurd (omega (arith, first.0))
some_first (b ∷ bs) first = omega arith

-- digits of which the first isn't 0
plain_digits : (text : List ℕ) (len : ℕ) → IsInRange 49 57 (get_or text 0 0) → 0 < len → len ≤ length text → IsPlain (take len text)
plain_digits text len first some within =
    let long = length-take-le len text within in
    let same = get_or-take len text 0 0 some in
    (omega arith, λ zero. absurd (omega (arith, zero)))

-- a number that ends where the text does
pub number_ends : (text rest : List ℕ) (at n len : ℕ) → rest ≡ drop at text → at ≤ length text → IsInRange 49 57 (get_or rest 0 0) → 0 < len → IsLeading rest n len → length (drop len rest) < 1 → words_from text at ≡ decimal n ∷ words_from text (at + len + 1)
number_ends text rest at n len is within first some leads none =
    let long : length rest ≡ length text - at = ap length is ∙ length-drop at text in
    let left : length (drop len rest) ≡ length rest - len = length-drop len rest in
    from_within text at within
    ∙ ap words_of (sym is)
    ∙ number_last rest n len (plain_digits rest len first some leads.within) leads (none_of (drop len rest) none)
    ∙ ap (λ ws. decimal n ∷ ws) (sym (from_past text (at + len + 1) (let fits = leads.within in omega arith)))

-- a number that ends before a space
pub number_goes_on : (text rest : List ℕ) (at n len : ℕ) → rest ≡ drop at text → at ≤ length text → IsInRange 49 57 (get_or rest 0 0) → 0 < len → IsLeading rest n len → 0 < length (drop len rest) → get_or (drop len rest) 0 0 ≡ 32 → words_from text at ≡ decimal n ∷ words_from text (at + len + 1)
number_goes_on text rest at n len is within first some leads longer parted =
    let long : length rest ≡ length text - at = ap length is ∙ length-drop at text in
    let left : length (drop len rest) ≡ length rest - len = length-drop len rest in
    let next : drop (len + 1) rest ≡ drop (at + len + 1) text = ap (drop (len + 1)) is ∙ drop-drop (len + 1) at text ∙ ap (λ k. drop k text) (omega arith) in
    let follows : drop len rest ≡ 32 ∷ drop (at + len + 1) text = after_first (drop len rest) 32 (omega arith) parted ∙ ap (λ r. 32 ∷ r) (take_rest (drop len rest) 1 ∙ drop-drop 1 len rest ∙ next) in
    from_within text at within
    ∙ ap words_of (sym is)
    ∙ number_first rest (drop (at + len + 1) text) n len (plain_digits rest len first some leads.within) leads follows
    ∙ ap (λ ws. decimal n ∷ ws) (sym (from_within text (at + len + 1) (let fits = leads.within in omega arith)))

-- one byte more before the word at a place
pub longer_from : (text : List ℕ) (at b : ℕ) (word : List ℕ) (words : Words) → 0 < b → is_space b ≡ false → at < length text → get_or text at 0 ≡ b → words_from text (at + 1) ≡ word ∷ words → words_from text at ≡ (b ∷ word) ∷ words
longer_from text at b word words some other within is spelled =
    let here : get_or (drop at text) 0 0 ≡ b = get_or-drop at text 0 0 ∙ ap (λ k. get_or text k 0) (omega arith) ∙ is in
    let first : drop at text ≡ b ∷ drop (at + 1) text = after_first (drop at text) b some here ∙ ap (λ r. b ∷ r) (take_rest (drop at text) 1 ∙ drop-drop 1 at text) in
    from_within text at (omega arith)
    ∙ ap words_of first
    ∙ longer_first b (drop (at + 1) text) word words other (sym (from_within text (at + 1) (omega arith)) ∙ spelled)

-- `x` at a place, and a number after it
pub variable_read : (text : List ℕ) (at : ℕ) (r : Option (ℕ × ℕ)) → (at < length text) × (get_or text at 0 ≡ 120)
    → IfSome r (λ read. (0 < read.0) × (read.0 < 10 ^ 18) × (words_from text (at + 1) ≡ decimal read.0 ∷ words_from text read.1))
    → IfSome r (λ read. IsVariable read.0 × (words_from text at ≡ variable_word read.0 ∷ words_from text read.1))
variable_read text at None first read = tt
variable_read text at (Some r) first read = ((read.0, omega (arith, read.1)), longer_from text at 120 (decimal r.0) (words_from text r.1) (omega arith) refl first.0 first.1 read.2)

-- the variable behind a `~` that may stand at a place
behind_tilde : (text : List ℕ) (at start var : ℕ) (left : Words) (negated : Bool) → MatchBool negated ((at < length text) × (get_or text at 0 ≡ 126) × (start ≡ at + 1)) (start ≡ at) → words_from text start ≡ variable_word var ∷ left → words_from text at ≡ (if negated then 126 ∷ variable_word var else variable_word var) ∷ left
behind_tilde text at start var left true place spelled = longer_from text at 126 (variable_word var) left (omega arith) refl place.0 place.1 (ap (λ k. words_from text k) (sym place.2) ∙ spelled)
behind_tilde text at start var left false place spelled = ap (λ k. words_from text k) (sym place) ∙ spelled

-- a literal at a place, by its variable
pub literal_read : (text : List ℕ) (at start var next : ℕ) (l : Literal) (negated : Bool) → MatchBool negated ((at < length text) × (get_or text at 0 ≡ 126) × (start ≡ at + 1)) (start ≡ at) → l.var ≡ var → l.neg ≡ negated
    → IsVariable var × (words_from text start ≡ variable_word var ∷ words_from text next)
    → IsVariable l.var × (words_from text at ≡ literal_word l ∷ words_from text next)
literal_read text at start var next l negated place same sign read =
    let word : (if negated then 126 ∷ variable_word var else variable_word var) ≡ literal_word l = ap (λ b. if b then 126 ∷ variable_word var else variable_word var) (sym sign) ∙ ap (λ v. if l.neg then 126 ∷ variable_word v else variable_word v) (sym same) in
    (subst IsVariable (sym same) read.0, behind_tilde text at start var (words_from text next) negated place read.1 ∙ ap (λ w. w ∷ words_from text next) word)

-- ---- what is cut off a text

abbrev pub Cut : {X : Type 0} → (X → Words) → (X → Type 0) → List ℕ → Option (X × Option (Bor (List ℕ))) → Type 0
Cut words IsValid text r = IfSome r (λ cut. IsValid cut.0 × (words_of text ≡ words cut.0 ++ words_left (option_copied cut.1)))

-- `1` at a place, and a literal after it
pub unit_read : (text rest : List ℕ) (at : ℕ) (r : Option (Literal × ℕ)) → rest ≡ drop at text → at ≤ length text → 2 ≤ length rest → get_or rest 0 0 ≡ 49 → get_or rest 1 0 ≡ 32
    → IfSome r (λ read. IsVariable read.0.var × (words_from text (at + 2) ≡ literal_word read.0 ∷ words_from text read.1))
    → IfSome r (λ read. IsVariable read.0.var × (words_from text at ≡ term_words (read.0, 1) ++ words_from text read.1))
unit_read text rest at None is within long first second read = tt
unit_read text rest at (Some r) is within long first second read =
    let count : length rest ≡ length text - at = ap length is ∙ length-drop at text in
    let begins : rest ≡ 49 ∷ 32 ∷ drop (at + 2) text = after_two rest 49 32 long first second ∙ ap (λ bs. 49 ∷ 32 ∷ bs) (take_rest rest 2 ∙ ap (drop 2) is ∙ drop-drop 2 at text) in
    (read.0, from_within text at within ∙ ap words_of (sym is) ∙ unit_first rest (drop (at + 2) text) r.0 (words_from text r.1) begins (sym (from_within text (at + 2) (omega arith)) ∙ read.1))

pub plain_cut : (text : List ℕ) (r : Option (ℕ × Option (Bor (List ℕ)))) → Cut (λ n. decimal n ∷ []) (λ n. n < 10 ^ 18) text r → Cut (λ n. decimal n ∷ []) IsId text r
plain_cut text None cut = tt
plain_cut text (Some c) cut = (omega (arith, cut.0), cut.1)

pub back_first : (rows next id distance : ℕ) (text : List ℕ) (left : Words) → is_made rows next id ≡ true → next - id ≡ distance → get_or text 0 0 ≡ 45 → words_of (take (length text - 1) (drop 1 text)) ≡ decimal distance ∷ left → words_of text ≡ id_word (Relative rows next) id ∷ left
back_first rows next id distance text left made back first is =
    longer_word text 45 (decimal distance) left (omega arith) refl first is ∙ ap (λ w. w ∷ left) (ap (λ d. 45 ∷ decimal d) (sym back) ∙ sym (back_word rows next id made))
