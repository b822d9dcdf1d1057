-- What is written piece by piece.
use Rattle.std.proofs.Common.{◌≡◌, ℕ, zero, suc, ◌+◌, ◌<◌, ◌≤◌, min, List, [], ◌∷◌, ◌++◌, length, map, drop, get_or, Some, Result, Ok, Err, OnOk, codes, refl, sym, ap, ◌∙◌, arith}
use Rattle.std.proofs.lemmas.List.{drop_more}
use Rattle.std.specs.Prelude.{slice_get}
use Rattle.opal_base.specs.declared.fault.NoMemory.{NoMemory}
use Rattle.opal_base.specs.Text.{utf8_of}
use Rattle.es5_tree.specs.declared.tree.EsExpr.{EsExpr}
use Rattle.es5_tree.specs.declared.tree.EsStmt.{EsStmt}
use Rattle.es5_printer.specs.Forms.{Part, lines, pair, pairs, param, pieces, value_behind}
use Rattle.es5_printer.specs.Page.{Shown, with_piece, with_text, written}
use Rattle.es5_printer.specs.Pieces.{Piece, listed, more_listed, plain}
use Rattle.es5_printer.specs.Text.{stmt_pieces}

pub written_append : (p q : List Piece) (s : Shown) → written (p ++ q) s ≡ written q (written p s)
written_append [] q s = refl
written_append (x ∷ p) q s = written_append p q (with_piece x s)

-- what goes on behind pieces that were written
behind : (p q : List Piece) (s m : Shown) → m ≡ written p s → written (p ++ q) s ≡ written q m
behind p q s m e = written_append p q s ∙ ap (written q) (sym e)

-- three steps, one behind the other
pub three_written : (a b d w : List Piece) (s m n k : Shown) (r : Result (Unit {0}) NoMemory) → w ≡ a ++ (b ++ d) → m ≡ written a s → n ≡ written b m → OnOk r (k ≡ written d n) → OnOk r (k ≡ written w s)
three_written a b d w s m n k (Ok u) h e f g = g ∙ (sym (behind b d m n f) ∙ (sym (behind a (b ++ d) s m e) ∙ ap (λ x. written x s) (sym h)))
three_written a b d w s m n k (Err x) h e f g = tt

-- ---- lists

pub item_at : {A : Type 0} (xs : List A) (i : ℕ) (x : A) → slice_get xs i ≡ Some x → drop i xs ≡ x ∷ drop (i + 1) xs
item_at [] i x h = cc
item_at (y ∷ ys) zero x h = cc
item_at (y ∷ ys) (suc i) x h = item_at ys i x h ∙ ap (λ k. x ∷ drop k (y ∷ ys)) (next i)
  where
    next : (i : ℕ) → suc (i + 1) ≡ suc i + 1
    next i = omega arith

pub read_at : {A : Type 0} (xs : List A) (i : ℕ) (x : A) → x ≡ get_or xs i x → i < length xs → drop i xs ≡ x ∷ drop (i + 1) xs
read_at xs i x e h = drop_more xs i x h ∙ ap (λ y. y ∷ drop (i + 1) xs) (sym e)

pub longer : (a b n i : ℕ) → n ≡ min a b → i < n → (i < a) × (i < b)
longer a b n i e h = (omega (arith, e, h), omega (arith, e, h))

pub lines_step : (body : List EsStmt) (i : ℕ) (x : EsStmt) (s m n : Shown) → drop i body ≡ x ∷ drop (i + 1) body → m ≡ written (stmt_pieces x) s → n ≡ with_text (codes "\n") m
    → written (lines (map stmt_pieces (drop i body))) s ≡ written (lines (map stmt_pieces (drop (i + 1) body))) n
lines_step body i x s m n d e f =
    ap (λ l. written (lines (map stmt_pieces l)) s) d
    ∙ behind (stmt_pieces x ++ plain (codes "\n")) (lines (map stmt_pieces (drop (i + 1) body))) s n (f ∙ sym (behind (stmt_pieces x) (plain (codes "\n")) s m e))

pub first_item : {A : Type 0} (g : A → Part) (xs : List A) (x : A) (s m : Shown) → drop 0 xs ≡ x ∷ drop 1 xs → m ≡ written (pieces (g x)) s
    → written (listed (map pieces (map g xs))) s ≡ written (more_listed (map pieces (map g (drop 1 xs)))) m
first_item g [] x s m d e = cc
first_item g (y ∷ ys) x s m d e = ap (λ l. written (listed (map pieces (map g l))) s) d ∙ behind (pieces (g x)) (more_listed (map pieces (map g ys))) s m e

pub next_item : {A : Type 0} (g : A → Part) (xs : List A) (i : ℕ) (x : A) (s m : Shown) → drop i xs ≡ x ∷ drop (i + 1) xs → m ≡ written (value_behind (codes ", ") (g x)) s
    → written (more_listed (map pieces (map g (drop i xs)))) s ≡ written (more_listed (map pieces (map g (drop (i + 1) xs)))) m
next_item g xs i x s m d e = ap (λ l. written (more_listed (map pieces (map g l))) s) d ∙ behind (value_behind (codes ", ") (g x)) (more_listed (map pieces (map g (drop (i + 1) xs)))) s m e

pub next_param : (ps : List (List ℕ)) (i : ℕ) (x : List ℕ) (s m n : Shown) → drop i ps ≡ x ∷ drop (i + 1) ps → m ≡ with_text (codes ", ") s → n ≡ with_text (utf8_of x) m
    → written (more_listed (map param (drop i ps))) s ≡ written (more_listed (map param (drop (i + 1) ps))) n
next_param ps i x s m n d e f = ap (λ l. written (more_listed (map param l)) s) d ∙ ap (written (more_listed (map param (drop (i + 1) ps)))) (ap (with_text (utf8_of x)) (sym e) ∙ sym f)

pub first_pair : (ks : List (List ℕ)) (g : EsExpr → Part) (vs : List EsExpr) (k : List ℕ) (v : EsExpr) (s m : Shown) → drop 0 ks ≡ k ∷ drop 1 ks → drop 0 vs ≡ v ∷ drop 1 vs → m ≡ written (pair k (g v)) s
    → written (listed (pairs ks (map g vs))) s ≡ written (more_listed (pairs (drop 1 ks) (map g (drop 1 vs)))) m
first_pair [] g vs k v s m d h e = cc
first_pair (a ∷ ks) g [] k v s m d h e = cc
first_pair (a ∷ ks) g (b ∷ vs) k v s m d h e =
    ap (λ l. written (listed (pairs l (map g (b ∷ vs)))) s) d ∙ (ap (λ l. written (listed (pairs (k ∷ ks) (map g l))) s) h ∙ behind (pair k (g v)) (more_listed (pairs ks (map g vs))) s m e)

pub next_pair : (ks : List (List ℕ)) (g : EsExpr → Part) (vs : List EsExpr) (i : ℕ) (k : List ℕ) (v : EsExpr) (s m n : Shown) → drop i ks ≡ k ∷ drop (i + 1) ks → drop i vs ≡ v ∷ drop (i + 1) vs
    → m ≡ with_text (codes ", ") s → n ≡ written (pair k (g v)) m
    → written (more_listed (pairs (drop i ks) (map g (drop i vs)))) s ≡ written (more_listed (pairs (drop (i + 1) ks) (map g (drop (i + 1) vs)))) n
next_pair ks g vs i k v s m n d h e f =
    ap (λ l. written (more_listed (pairs l (map g (drop i vs)))) s) d
    ∙ (ap (λ l. written (more_listed (pairs (k ∷ drop (i + 1) ks) (map g l))) s) h
    ∙ (ap (written (pair k (g v) ++ more_listed (pairs (drop (i + 1) ks) (map g (drop (i + 1) vs))))) (sym e)
    ∙ behind (pair k (g v)) (more_listed (pairs (drop (i + 1) ks) (map g (drop (i + 1) vs)))) m n f))

pub pairs_over : (ks : List (List ℕ)) (g : EsExpr → Part) (vs : List EsExpr) (i : ℕ) → min (length ks) (length vs) ≤ i → pairs (drop i ks) (map g (drop i vs)) ≡ []
pairs_over [] g vs zero h = refl
pairs_over [] g vs (suc i) h = refl
pairs_over (k ∷ ks) g [] zero h = refl
pairs_over (k ∷ ks) g [] (suc i) h = over (drop i ks)
  where
    over : (l : List (List ℕ)) → pairs l [] ≡ []
    over [] = refl
    over (x ∷ xs) = refl
pairs_over (k ∷ ks) g (v ∷ vs) zero h = absurd (omega (arith, h))
pairs_over (k ∷ ks) g (v ∷ vs) (suc i) h = pairs_over ks g vs i (omega (arith, h))
