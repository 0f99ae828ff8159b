-- Bytes put one after the other are the bytes put together. Assumes nothing.
use mathlib.Core.Path.{◌≡◌, refl, sym, ap, ◌∙◌, subst}
use mathlib.Core.List.{List, [], ◌∷◌, ◌++◌, append_assoc}
use Prim.Native.Nat.{ℕ, ◌+◌, ◌/◌, ◌%◌, ◌≤◌, ◌<◌}
use native.Mathlib.Omega.{arith}
use native.Mathlib.Numerals.{add-one}
use lib.ListN.{length, take, drop, set, length-append}
use lib.Seq.{take-suc-set, drop-set-lt, drop-drop}
use Rattle.report.specs.declared.Line.{Line}
use Rattle.report.specs.Line.{decimal, field_text, line_bytes, Put}
use Rattle.report.proofs.Digits.{decimal-small, decimal-more}

pub put_one : (xs : List ℕ) (at b : ℕ) → at < length xs → Put xs at (b ∷ []) (set xs at b) (at + 1)
put_one xs at b h = record {
  place = refl;
  held = rw add-one (take-suc-set xs at b h);
  rest = drop-set-lt (at + 1) xs at b (omega arith);
}

-- Lists alike from p on are alike from any later place on.
drop-later : (xs ys : List ℕ) (p k r : ℕ) → r ≡ p + k → drop p ys ≡ drop p xs → drop r ys ≡ drop r xs
drop-later xs ys p k r e same =
    ap (λ (n : ℕ). drop n ys) e
    ∙ sym (drop-drop k p ys)
    ∙ ap (λ (l : List ℕ). drop k l) same
    ∙ drop-drop k p xs
    ∙ ap (λ (n : ℕ). drop n xs) (sym e)

pub put_then : {xs ys zs bs cs : List ℕ} {at p r : ℕ} → Put xs at bs ys p → Put ys p cs zs r → Put xs at (bs ++ cs) zs r
put_then {xs} {ys} {zs} {bs} {cs} {at} {p} {r} f g = record {
  place = omega (arith, length-append bs cs, f.place, g.place);
  held = g.held ∙ ap (λ (l : List ℕ). l ++ cs) f.held ∙ append_assoc (take at xs) bs cs;
  rest = g.rest ∙ drop-later xs ys p (length cs) r g.place f.rest;
}

pub put_small : {xs ys : List ℕ} {at n r : ℕ} → n < 10 → Put xs at ((48 + n) ∷ []) ys r → Put xs at (decimal n) ys r
put_small {xs} {ys} {at} {n} {r} h f = subst (λ (bs : List ℕ). Put xs at bs ys r) (sym (decimal-small n h)) f

pub put-more : {xs ys zs : List ℕ} {at p n r : ℕ} → 10 ≤ n → Put xs at (decimal (n / 10)) ys p → Put ys p ((48 + n % 10) ∷ []) zs r →
    Put xs at (decimal n) zs r
put-more {xs} {ys} {zs} {at} {p} {n} {r} h f g = subst (λ (bs : List ℕ). Put xs at bs zs r) (sym (decimal-more n h)) (put_then f g)

pub put_whole : {xs ws bs cs ds es : List ℕ} {a b c d e : ℕ} (l : Line)
    → Put xs 0 (field_text l.number 32) ws a
    → Put ws a (field_text l.place 32) bs b
    → Put bs b (field_text l.lines 32) cs c
    → Put cs c (field_text l.rounds 32) ds d
    → Put ds d (field_text l.peak 10) es e
    → Put xs 0 (line_bytes l) es e
unfolding line_bytes
put_whole l f g h i j = put_then f (put_then g (put_then h (put_then i j)))
