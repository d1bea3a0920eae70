-- Words that are printed one behind the other.
use Rattle.vx_script_print.proofs.Terms.{◌≡◌, ◌∙◌, sym, ap, refl, ℕ, zero, suc, ◌+◌, ◌*◌, ◌<◌, ◌≤◌, min, List, [], ◌∷◌, ◌++◌, length, map, take, drop, get_or, arith, append_assoc, append-nil, common_steps, take_at_read, drop-drop, map-append, block_word, cut_blocks, words_of, row_words, block_at, spelled, begun, Item, Value}

pub spelled_both : (xs ys : List (List ℕ)) → spelled (xs ++ ys) ≡ spelled xs ++ spelled ys
spelled_both [] ys = refl
spelled_both (x ∷ xs) ys = ap (λ t. 32 ∷ (x ++ t)) (spelled_both xs ys) ∙ ap (λ t. 32 ∷ t) (sym (append_assoc x (spelled xs) (spelled ys)))

pub row_push : (is : List Item) (vs : List Value) (i : Item) (v : Value) → length is ≡ length vs → row_words (is ++ i ∷ []) (vs ++ v ∷ []) ≡ row_words is vs ++ words_of i v
row_push [] [] i v e = append-nil (words_of i v)
row_push (j ∷ js) (w ∷ ws) i v e = ap (λ t. words_of j w ++ t) (row_push js ws i v (omega arith)) ∙ sym (append_assoc (words_of j w) (row_words js ws) (words_of i v))
row_push is vs i v e = absurd (omega arith)

pub row_all : (is : List Item) (vs : List Value) (n : ℕ) → min (length is) (length vs) ≤ n → row_words (take n is) (take n vs) ≡ row_words is vs
row_all [] vs zero h = refl
row_all [] vs (suc n) h = refl
row_all (i ∷ is) [] zero h = refl
row_all (i ∷ is) [] (suc n) h = refl
row_all (i ∷ is) (v ∷ vs) zero h = absurd (omega (arith, h))
row_all (i ∷ is) (v ∷ vs) (suc n) h = ap (λ ws. words_of i v ++ ws) (row_all is vs n (omega (arith, h)))

pub cut_length : (n : ℕ) (bytes : List ℕ) → length (cut_blocks n bytes) ≡ n
cut_length zero bytes = refl
cut_length (suc n) bytes = ap suc (cut_length n (drop 512 bytes))

-- the block at a place
pub cut_at : (n k : ℕ) (bytes : List ℕ) → k < n → get_or (cut_blocks n bytes) k [] ≡ block_at k bytes
cut_at zero k bytes h = absurd (omega arith)
cut_at (suc n) zero bytes h = refl
cut_at (suc n) (suc k) bytes h =
    let on : 512 * suc k ≡ 512 + 512 * k = omega arith in
    cut_at n k (drop 512 bytes) (omega arith) ∙ ap (take 512) (drop-drop (512 * k) 512 bytes) ∙ ap (λ m. take 512 (drop m bytes)) (sym on)

-- one block more
pub block_more : (n k : ℕ) (bytes : List ℕ) → k < n → spelled (map block_word (take (k + 1) (cut_blocks n bytes))) ≡ spelled (map block_word (take k (cut_blocks n bytes))) ++ 32 ∷ block_word (block_at k bytes)
block_more n k bytes h =
    let last = (take_at_read (cut_blocks n bytes) k [] (omega (arith, h, cut_length n bytes))).1 in
    ap (λ bs. spelled (map block_word bs)) (last ∙ ap (λ b. take k (cut_blocks n bytes) ++ b ∷ []) (cut_at n k bytes h)) ∙ ap spelled (map-append block_word (take k (cut_blocks n bytes)) (block_at k bytes ∷ []))
    ∙ spelled_both (map block_word (take k (cut_blocks n bytes))) (block_word (block_at k bytes) ∷ []) ∙ ap (λ t. spelled (map block_word (take k (cut_blocks n bytes))) ++ 32 ∷ t) (append-nil (block_word (block_at k bytes)))

begun_is : (ws : List (List ℕ)) → drop 1 (spelled ws) ≡ begun ws
begun_is [] = refl
begun_is (w ∷ ws) = refl

-- words in two lists begin with the first word
pub begun_both : (ws vs : List (List ℕ)) → drop 1 (spelled ws ++ spelled vs) ≡ begun (ws ++ vs)
begun_both ws vs = ap (drop 1) (sym (spelled_both ws vs)) ∙ begun_is (ws ++ vs)

pub ruleset row_steps = (common_steps, spelled_both, row_push, row_all)

pub ruleset word_steps = (common_steps, spelled_both)

pub ruleset block_steps = (common_steps, block_more, cut_length)

pub ruleset line_steps = (common_steps, begun_both)
