-- How ids are spelled tells them apart.
use Rattle.std.proofs.Common.{◌≡◌, ℕ, ◌-◌, ◌^◌, ◌<◌, ◌≤◌, Bool, true, false, cond, List, [], ◌∷◌, ◌++◌, codes, get_or, take, drop, length, Option, Some, None, MatchOption, refl, sym, ap, subst, ◌∙◌, arith}
use Rattle.std.specs.Int.{IsInRange}
use Rattle.std.specs.Fmt.{decimal}
use Rattle.std.proofs.lemmas.Bool.{and_parts, ltb-true}
use Rattle.scut_base.proofs.Lists.{tail_same}
use Rattle.proof_laws.specs.WellFormed.{IsId}
use Rattle.proof_lines.specs.declared.spelling.Spelling.{Spelling}
use Rattle.proof_lines.specs.declared.spelling.Spelling.TheVariants.{Plain, Relative}
use Rattle.proof_lines.specs.Ids.{IsSpelling, id_word, is_back, is_made}
use Rattle.proof_lines.specs.Pieces.{IsBack}
use Rattle.proof_lines.specs.Reading.{IsValueOf}
use Rattle.std.proofs.lemmas.List.{take_rest}
use Rattle.proof_lines.proofs.Numbers.{one_number, decimal_first}

-- the word of an id, by whether a line made it
abbrev pub id_by : ℕ → ℕ → Bool → List ℕ
id_by next id made = cond made (codes "-" ++ decimal (next - id)) (decimal id)

-- no number begins with `-`
no_minus : (n : ℕ) (word : List ℕ) → n < 10 ^ 64 → 45 ∷ word ≡ decimal n → ⊥
no_minus n word small is =
    let first : IsInRange 48 57 (get_or (decimal n) 0 0) = decimal_first n small in
    let minus : 45 ≡ get_or (decimal n) 0 0 = ap (λ (w : List ℕ). get_or w 0 0) is in
    omega arith

pub below_next : (rows next id : ℕ) → is_made rows next id ≡ true → (rows < id) × (id < next)
below_next rows next id made =
    let parts = and_parts _ _ made in
    (ltb-true rows id parts.0, ltb-true id next parts.1)

one_by : (rows next : ℕ) → next ≤ 2 ^ 63 → (b c : Bool) (i j : ℕ) → is_made rows next i ≡ b → is_made rows next j ≡ c → i < 2 ^ 63 → j < 2 ^ 63 → id_by next i b ≡ id_by next j c → i ≡ j
one_by rows next most true true i j made_i made_j small_i small_j is =
    let back : next - i ≡ next - j = one_number (next - i) (next - j) (omega arith) (omega arith) (tail_same _ _ _ _ is) in
    let one = below_next rows next i made_i in
    let two = below_next rows next j made_j in
    omega arith
one_by rows next most true false i j made_i made_j small_i small_j is = absurd (no_minus j (decimal (next - i)) (omega arith) is)
one_by rows next most false true i j made_i made_j small_i small_j is = absurd (no_minus i (decimal (next - j)) (omega arith) (sym is))
one_by rows next most false false i j made_i made_j small_i small_j is = one_number i j (omega arith) (omega arith) is

-- an id is a word's, and no other's
pub one_id : (spelling : Spelling) → IsSpelling spelling → (i j : ℕ) → IsId i → IsId j → id_word spelling i ≡ id_word spelling j → i ≡ j
one_id Plain fine i j small_i small_j is = one_number i j (omega arith) (omega arith) is
one_id (Relative rows next) fine i j small_i small_j is = one_by rows next fine (is_made rows next i) (is_made rows next j) i j refl refl small_i small_j is

-- ---- the first byte

by_first : (next id : ℕ) (made : Bool) → id < 2 ^ 63 → IsInRange 45 57 (get_or (id_by next id made) 0 0)
by_first next id true small = omega arith
by_first next id false small = let first : IsInRange 48 57 (get_or (decimal id) 0 0) = decimal_first id (omega arith) in omega arith

-- it is a digit or `-`
pub id_first : (spelling : Spelling) (id : ℕ) → IsId id → IsInRange 45 57 (get_or (id_word spelling id) 0 0)
id_first Plain id small = let first : IsInRange 48 57 (get_or (decimal id) 0 0) = decimal_first id (omega arith) in omega arith
id_first (Relative rows next) id small = by_first next id (is_made rows next id) small

-- an id isn't a word of another first byte
pub no_id : (spelling : Spelling) (id : ℕ) → IsId id → (word : List ℕ) → (IsInRange 45 57 (get_or word 0 0) → ⊥) → id_word spelling id ≡ word → ⊥
no_id spelling id small word other is = other (subst (λ (w : List ℕ). IsInRange 45 57 (get_or w 0 0)) is (id_first spelling id small))

-- ---- numbers

-- a number is the word of that id, or of none
by_number : (rows next n id : ℕ) (made : Bool) → n < 10 ^ 64 → id < 2 ^ 63 → is_made rows next id ≡ made → decimal n ≡ id_by next id made → (n ≡ id) × (is_made rows next n ≡ false)
by_number rows next n id true small valid made is = absurd (no_minus n (decimal (next - id)) small (sym is))
by_number rows next n id false small valid made is =
    let same : n ≡ id = one_number n id small (omega arith) is in
    (same, ap (is_made rows next) same ∙ made)

-- an id whose word is digits has these
pub digits_of_id : (spelling : Spelling) (n id : ℕ) → n < 10 ^ 64 → IsId id → decimal n ≡ id_word spelling id → (n ≡ id) × (is_back spelling n ≡ false)
digits_of_id Plain n id small valid is = (one_number n id small (omega arith) is, refl)
digits_of_id (Relative rows next) n id small valid is = by_number rows next n id (is_made rows next id) small valid refl is

-- the word of an id that isn't counted back are its digits
pub digits_word : (spelling : Spelling) (id : ℕ) → is_back spelling id ≡ false → id_word spelling id ≡ decimal id
digits_word Plain id other = refl
digits_word (Relative rows next) id other = ap (id_by next id) other

-- the word of an id that is counted back
pub back_word : (rows next id : ℕ) → is_made rows next id ≡ true → id_word (Relative rows next) id ≡ 45 ∷ decimal (next - id)
back_word rows next id made = ap (id_by next id) made

-- ---- the id that counts back

-- where no number follows
pub back_none : (rows next : ℕ) (digits : List ℕ) → next ≤ 2 ^ 63 → ((x : ℕ) → IsId x → digits ≡ decimal x → ⊥) → IsBack rows next digits None
back_none rows next digits most none = λ id made is. let range = below_next rows next id made in none (next - id) (omega arith) is

-- where one may follow
pub back_from : (rows next distance : ℕ) (digits : List ℕ) (r : Option ℕ) → next ≤ 2 ^ 63 → IsId distance → digits ≡ decimal distance → MatchOption r ((id : ℕ) → is_made rows next id ≡ true → next - id ≡ distance → ⊥) (λ id. (is_made rows next id ≡ true) × (next - id ≡ distance)) → IsBack rows next digits r
back_from rows next distance digits None most valid spelled none = λ id made is. none id made (one_number (next - id) distance (omega arith) (omega arith) (sym is ∙ spelled))
back_from rows next distance digits (Some id) most valid spelled back = (back.0, spelled ∙ ap decimal (sym back.1))

-- no other id stands so far before the next
pub none_before : (rows next distance : ℕ) → distance ≤ next → is_made rows next (next - distance) ≡ false → (id : ℕ) → is_made rows next id ≡ true → next - id ≡ distance → ⊥
none_before rows next distance within other id made is =
    let range = below_next rows next id made in
    let same : id ≡ next - distance = omega (arith, range.1) in
    by (is_made rows next id) made (ap (is_made rows next) same ∙ other)
  where
    by : (v : Bool) → v ≡ true → v ≡ false → ⊥
    by v passed failed = cc

-- ---- a word that begins with `-`

-- the bytes after the first
pub after_first : (word : List ℕ) (first : ℕ) → 0 < first → get_or word 0 0 ≡ first → word ≡ first ∷ take (length word - 1) (drop 1 word)
after_first [] first some is = absurd (omega arith)
after_first (b ∷ bs) first some is = ap (λ c. c ∷ bs) is ∙ ap (λ ds. first ∷ ds) (sym (take_rest (b ∷ bs) 1))

none_by : (rows next x : ℕ) (word digits : List ℕ) (made : Bool) → is_made rows next x ≡ made → IsId x → word ≡ 45 ∷ digits → IsBack rows next digits None → word ≡ id_by next x made → ⊥
none_by rows next x word digits true made valid is none spelled = none x made (tail_same _ _ _ _ (sym is ∙ spelled))
none_by rows next x word digits false made valid is none spelled = no_minus x digits (omega arith) (sym is ∙ spelled)

pub back_value : (rows next : ℕ) (word digits : List ℕ) (r : Option ℕ) → next ≤ 2 ^ 63 → word ≡ 45 ∷ digits → IsBack rows next digits r → IsValueOf (id_word (Relative rows next)) IsId word r
back_value rows next word digits None most is back = λ x valid spelled. none_by rows next x word digits (is_made rows next x) refl valid is back spelled
back_value rows next word digits (Some id) most is back =
    let range = below_next rows next id back.0 in
    (omega (arith, range.1), is ∙ ap (λ ds. 45 ∷ ds) back.1 ∙ sym (back_word rows next id back.0))

digits_none : (rows next x : ℕ) (word : List ℕ) (made : Bool) → is_made rows next x ≡ made → IsId x → (get_or word 0 0 ≡ 45 → ⊥) → ((n : ℕ) → IsId n → word ≡ decimal n → ⊥) → word ≡ id_by next x made → ⊥
digits_none rows next x word true made valid other none spelled = other (ap (λ w. get_or w 0 0) spelled)
digits_none rows next x word false made valid other none spelled = none x valid spelled

-- a word that is no number and doesn't begin with `-`
pub no_digits : (rows next : ℕ) (word : List ℕ) → (get_or word 0 0 ≡ 45 → ⊥) → ((n : ℕ) → IsId n → word ≡ decimal n → ⊥) → IsValueOf (id_word (Relative rows next)) IsId word None
no_digits rows next word other none = λ x valid spelled. digits_none rows next x word (is_made rows next x) refl valid other none spelled

-- digits of an id that a line made
pub made_in_digits : (rows next n : ℕ) (word : List ℕ) → IsId n → word ≡ decimal n → is_made rows next n ≡ true → IsValueOf (id_word (Relative rows next)) IsId word None
made_in_digits rows next n word below is made = λ x valid spelled.
    let same = digits_of_id (Relative rows next) n x (omega arith) valid (sym is ∙ spelled) in
    by (is_made rows next n) made same.1
  where
    by : (v : Bool) → v ≡ true → v ≡ false → ⊥
    by v passed failed = cc

-- digits of an id that no line made
pub plain_digits : (rows next n : ℕ) (word : List ℕ) → IsId n → word ≡ decimal n → is_made rows next n ≡ false → IsValueOf (id_word (Relative rows next)) IsId word (Some n)
plain_digits rows next n word below is other = (below, is ∙ sym (digits_word (Relative rows next) n other))
