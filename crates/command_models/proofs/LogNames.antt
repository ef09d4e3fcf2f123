-- The names of the logs and of the text of all models differ.
use Rattle.std.specs.Prelude.{◌≡◌, ◌≢◌, ℕ, ◌<◌, ◌≤◌, ◌^◌, List, [], ◌∷◌, ◌++◌, codes, refl}
use Rattle.std.specs.Fmt.{decimal}
use Rattle.std.proofs.Common.{get_or, sym, ◌∙◌, ap, subst, arith}
use Rattle.std.proofs.lemmas.List.{append_assoc, append_cancel_left, append_cancel_right}
use Rattle.scut_base.specs.Number.{natural_value}
use Rattle.front_text.proofs.Numbers.{decimal_first, value_of_decimal}
use Rattle.command_check_models.specs.Words.{log_name, models_name}

-- two logs of one name are of one number
pub one_log : (base : List ℕ) (m n : ℕ) → m < 2 ^ 64 → n < 2 ^ 64 → log_name base m ≡ log_name base n → m ≡ n
one_log base m n small fits same =
    let digits : decimal m ≡ decimal n = append_cancel_left (base ++ codes ".") (decimal m) (decimal n) (append_cancel_right ((base ++ codes ".") ++ decimal m) ((base ++ codes ".") ++ decimal n) (codes ".log") same) in
    sym (value_of_decimal m small) ∙ ap natural_value digits ∙ value_of_decimal n fits

-- no number begins as a word does
no_word : (t : List ℕ) → 48 ≤ get_or t 0 0 → get_or t 0 0 ≤ 57 → t ++ codes ".log" ≡ codes "models" → ⊥
no_word [] low high same = omega arith
no_word (d ∷ t) low high same = let first : d ≡ 109 = ap (λ (xs : List ℕ). get_or xs 0 0) same in omega arith

-- no log has the name of the text
pub no_log : (base : List ℕ) (n : ℕ) → n < 2 ^ 64 → log_name base n ≢ models_name base
no_log base n small same =
    let first = decimal_first n small in
    let apart : (base ++ codes ".") ++ (decimal n ++ codes ".log") ≡ (base ++ codes ".") ++ codes "models" =
    sym (append_assoc (base ++ codes ".") (decimal n) (codes ".log")) ∙ same ∙ sym (append_assoc base (codes ".") (codes "models")) in
    no_word (decimal n) first.0 first.1 (append_cancel_left (base ++ codes ".") (decimal n ++ codes ".log") (codes "models") apart)
