use Rattle.std.proofs.Common.{◌≡◌, ℕ, suc, ◌+◌, ◌-◌, ◌<◌, ◌≤◌, ltb, ◌≢◌, List, [], ◌∷◌, ◌++◌, length, get_or, take, drop, set, sym, refl, ap, ◌∙◌, ⊎_elim, arith}
use Rattle.std.proofs.lemmas.List.{length-drop, length-append, length-set, length-take-le, length_push, get_or-take, get_or-drop, get_or_append_left, get_or-append_right, get_or-set_same, get_or-set_other, get_or_push, same_lists, drop_more, take-append-le, drop_at}
use Rattle.std.proofs.lemmas.Bool.{cases_lt, lt-ltb, le-ltb, cond-true, cond-false}
use Rattle.std.proofs.lemmas.Bool.Decides.{nat_tests}
use Rattle.line.specs.Ring.{turned, placed}

pub length_turned : {X : Type 0} (xs : List X) (f c : ℕ) → f ≤ length xs → c ≤ length xs → length (turned xs f c) ≡ c
length_turned xs f c hf hc = length-take-le c (drop f (xs ++ xs)) (simp (length-drop, length-append) (omega arith))

pub get_or_turned : {X : Type 0} (xs : List X) (f c k : ℕ) (d : X) → f ≤ length xs → k < c → c ≤ length xs → get_or (turned xs f c) k d ≡ get_or xs (placed (length xs) f k) d
get_or_turned xs f c k d hf hk hc =
    get_or-take c (drop f (xs ++ xs)) k d hk ∙ (get_or-drop f (xs ++ xs) k d ∙ ⊎_elim
    (λ lo. get_or_append_left xs xs d (f + k) lo ∙ ap (λ n. get_or xs n d) (sym (cond-true (ltb (f + k) (length xs)) (f + k) (f + k - length xs) (lt-ltb (f + k) (length xs) lo))))
    (λ hi. get_or-append_right xs xs (length xs) (f + k) d refl hi ∙ ap (λ n. get_or xs n d) (sym (cond-false (ltb (f + k) (length xs)) (f + k) (f + k - length xs) (le-ltb (f + k) (length xs) hi))))
    (cases_lt (f + k) (length xs)))

pub placed_apart : (n f j k : ℕ) → f ≤ n → j < k → k < n → placed n f j ≢ placed n f k
placed_apart n f j k hf hj hk e = grind (arith, nat_tests)

pub placed_below : (n f k : ℕ) → f ≤ n → k < n → placed n f k < n
placed_below n f k hf hk = grind (arith, nat_tests)

pub turned_push : {X : Type 0} (xs : List X) (f c : ℕ) (v : X) → f ≤ length xs → c < length xs → turned (set xs (placed (length xs) f c) v) f (c + 1) ≡ turned xs f c ++ v ∷ []
turned_push xs f c v hf hc =
    let at : ℕ = placed (length xs) f c in
    let ls : length (set xs at v) ≡ length xs = length-set xs at v in
    let l1 : length (turned (set xs at v) f (c + 1)) ≡ c + 1 = length_turned (set xs at v) f (c + 1) (omega arith) (omega arith) in
    let l2 : length (turned xs f c) ≡ c = length_turned xs f c hf (omega arith) in
    same_lists _ _ (l1 ∙ (ap (λ n. n + 1) (sym l2) ∙ sym (length_push (turned xs f c) v)))
    (λ k d h.
    let same : get_or (turned (set xs at v) f (c + 1)) k d ≡ get_or (set xs at v) (placed (length xs) f k) d = get_or_turned (set xs at v) f (c + 1) k d (omega arith) (omega arith) (omega arith) ∙ ap (λ n. get_or (set xs at v) (placed n f k) d) ls in
    same ∙ ⊎_elim
    (λ lo. get_or-set_other xs at (placed (length xs) f k) v d (placed_apart (length xs) f k c hf lo hc) ∙ (sym (get_or_turned xs f c k d hf lo (omega arith)) ∙ sym (get_or_append_left (turned xs f c) (v ∷ []) d k (omega arith))))
    (λ hi. let e : k ≡ c = omega arith in
    ap (λ n. get_or (set xs at v) (placed (length xs) f n) d) e ∙ (get_or-set_same xs at v d (placed_below (length xs) f c hf hc) ∙ sym (get_or_push (turned xs f c) v d k (omega arith))))
    (cases_lt k c))

pub turned_pop : {X : Type 0} (xs : List X) (f c : ℕ) (d : X) → f < length xs → 0 < c → turned xs f c ≡ get_or xs f d ∷ turned xs (f + 1) (c - 1)
turned_pop xs f c d hf hc =
    let two : f < length (xs ++ xs) = simp length-append (omega arith) in
    let e : c ≡ suc (c - 1) = omega arith in
    ap (take c) (drop_more (xs ++ xs) f d two) ∙ (ap (λ n. take n (get_or (xs ++ xs) f d ∷ drop (f + 1) (xs ++ xs))) e ∙ ap (λ y. y ∷ turned xs (f + 1) (c - 1)) (get_or_append_left xs xs d f hf))

pub turned_round : {X : Type 0} (xs : List X) (c : ℕ) → c ≤ length xs → turned xs (length xs) c ≡ turned xs 0 c
turned_round xs c hc = ap (take c) (drop_at xs xs (length xs) refl) ∙ sym (take-append-le c xs xs hc)

pub turned_take : {X : Type 0} (xs : List X) (f c : ℕ) (d : X) → f ≤ length xs → 0 < c → c ≤ length xs → turned xs f c ≡ get_or xs (placed (length xs) f 0) d ∷ turned xs (placed (length xs) f 0 + 1) (c - 1)
turned_take xs f c d hf hc hl = ⊎_elim
    (λ lo. let e : placed (length xs) f 0 ≡ f = grind (arith, nat_tests) in turned_pop xs f c d lo hc ∙ ap (λ n. get_or xs n d ∷ turned xs (n + 1) (c - 1)) (sym e))
    (λ hi. let e : placed (length xs) f 0 ≡ 0 = grind (arith, nat_tests) in let w : f ≡ length xs = omega arith in ap (λ n. turned xs n c) w ∙ (turned_round xs c hl ∙ (turned_pop xs 0 c d (omega arith) hc ∙ ap (λ n. get_or xs n d ∷ turned xs (n + 1) (c - 1)) (sym e))))
    (cases_lt f (length xs))
