-- What is read is a text by the grammar, and what is left is the rest.
use mathlib.Core.Path.{◌≡◌, refl, sym, ap, subst, ◌∙◌}
use mathlib.Core.List.{List, [], ◌∷◌, ◌++◌, append_assoc}
use mathlib.Core.Bool.{Bool, true, false, cond}
use Prim.Native.Nat.{ℕ, zero, suc, ◌<◌}
use native.Mathlib.Omega.{arith}
use lib.Dec.{eqb, lit<}
use lib.ListN.{length, drop}
use borrow.Author.Tests.{eqb-true}
use Rattle.ground.specs.Bytes.{at}
use Rattle.usages.specs.Usage.{Usage, lock, unlock, either, both}
use Rattle.usage_text.specs.Signs.{nought, ell, dot, hat, ampersand, star, open_sign, close_sign}
use Rattle.usage_text.specs.Grammar.{Texts, Joined, single, more, Prefixed, plain, locked, unlocked, bracket, Shuffle, Choice, Inside, TextOf}
use Rattle.usage_text.specs.declared.Head.{Head}
use Rattle.usage_text.specs.declared.Head.TheVariants.{Nought, Lock, Unlock, Open, Other}
use Rattle.usage_text.specs.Reading.{Read, unread, read, head_of, under, closed, prefixed, onward, chain_from, chain, read_prefixed, read_shuffle, read_choice, read_inside, read_text}
use Rattle.usage_text.proofs.Heads.{begins, head-nought, head-lock, head-unlock, head-open, at-nought, at-lock, at-unlock, at_open_lem, at_other, at-end, at_gap, at_sign}

-- the text s is a text of u and then r
pub record Took (P : Texts) (s : List ℕ) (u : Usage) (r : List ℕ) : Type 0 where
  pub front : List ℕ
  pub split : s ≡ front ++ r
  pub text : P front u

-- whatever this reads is one of these texts
abbrev pub Sound : Texts → (List ℕ → Read) → Type 0
Sound P reads = (s : List ℕ) (u : Usage) (r : List ℕ) → reads s ≡ read u r → Took P s u r

-- ---- what was read
not-read : {A : Type 0} {u : Usage} {r : List ℕ} → unread ≡ read u r → A
not-read e = let z : ◌≡◌ {A = ℕ} 0 1 = cc in absurd (omega arith)

pub same-usage : {u v : Usage} {r s : List ℕ} → read u r ≡ read v s → u ≡ v
same-usage e = cc

same_rest : {u v : Usage} {r s : List ℕ} → read u r ≡ read v s → r ≡ s
same_rest e = cc

under-read : (f : Usage → Usage) (x : Read) (u : Usage) (r : List ℕ) → under f x ≡ read u r → (v : Usage) × (x ≡ read v r) × (f v ≡ u)
under-read f unread u r e = not-read e
under-read f (read v q) u r e = (v, ap (read v) (same_rest e), same-usage e)

closed-read : (x : Read) (u : Usage) (r : List ℕ) → closed x ≡ read u r → x ≡ read u (close_sign ∷ r)
unfolding closed
closed-read unread u r e = not-read e
closed-read (read v q) u r e = go (eqb (at q 0) close_sign) refl e
  where
    go : (t : Bool) → eqb (at q 0) close_sign ≡ t → cond t (read v (drop 1 q)) unread ≡ read u r → read v q ≡ read u (close_sign ∷ r)
    go true p e = rw (begins close_sign q (lit< tt) (eqb-true (at q 0) close_sign p), same_rest e, same-usage e)
    go false p e = not-read e

-- ---- a sort and its reader
took : {P : Texts} {s : List ℕ} {u v : Usage} {r q : List ℕ} → read u r ≡ read v q → Took P s u r → Took P s v q
took {P} {s} {u} {v} {r} {q} e t =
    record {
      front = t.front;
      split = t.split ∙ ap (λ (l : List ℕ). t.front ++ l) (same_rest e);
      text = subst (λ (w : Usage). P t.front w) (same-usage e) t.text;
    }

module _ (P : Texts) (inside : List ℕ → Read) (ok : Sound P inside) where
  bracketed : (s : List ℕ) (u : Usage) (r : List ℕ) → s ≡ open_sign ∷ drop 1 s → Took P (drop 1 s) u (close_sign ∷ r) → Took (Prefixed P) s u r
  bracketed s u r p t =
      record {
        front = open_sign ∷ (t.front ++ (close_sign ∷ []));
        split = p ∙ ap (λ (l : List ℕ). open_sign ∷ l) (t.split ∙ sym (append_assoc t.front (close_sign ∷ []) r));
        text = bracket t.text;
      }

  prefixed-sound : (k : ℕ) → Sound (Prefixed P) (prefixed inside k)
  unfolding prefixed
  prefixed-sound zero s u r e = not-read e
  prefixed-sound (suc k) s u r e = go (head_of s) refl (prefixed-sound k)
    where
      go : (h : Head) → head_of s ≡ h → Sound (Prefixed P) (prefixed inside k) → Took (Prefixed P) s u r
      go Nought p ih = took (sym (at-nought inside k s p) ∙ e) (record { front = nought ∷ []; split = head-nought s p; text = plain })
      go Lock p ih =
          let x = under-read lock (prefixed inside k (drop 2 s)) u r (sym (at-lock inside k s p) ∙ e) in
          let t = ih (drop 2 s) x.0 r x.1 in
          record {
            front = ell ∷ dot ∷ t.front;
            split = head-lock s p ∙ ap (λ (l : List ℕ). ell ∷ dot ∷ l) t.split;
            text = subst (λ (w : Usage). Prefixed P (ell ∷ dot ∷ t.front) w) x.2 (locked t.text);
          }
      go Unlock p ih =
          let x = under-read unlock (prefixed inside k (drop 3 s)) u r (sym (at-unlock inside k s p) ∙ e) in
          let t = ih (drop 3 s) x.0 r x.1 in
          record {
            front = hat ∷ ell ∷ dot ∷ t.front;
            split = head-unlock s p ∙ ap (λ (l : List ℕ). hat ∷ ell ∷ dot ∷ l) t.split;
            text = subst (λ (w : Usage). Prefixed P (hat ∷ ell ∷ dot ∷ t.front) w) x.2 (unlocked t.text);
          }
      go Open p ih = bracketed s u r (head-open s p) (ok (drop 1 s) u (close_sign ∷ r) (closed-read (inside (drop 1 s)) u r (sym (at_open_lem inside k s p) ∙ e)))
      go Other p ih = not-read (sym (at_other inside k s p) ∙ e)

module _ (P : Texts) (part : List ℕ → Read) (sign : ℕ) (positive : 0 < sign) (join : Usage → Usage → Usage) (ok : Sound P part) where
  -- t has been read as u, and s lies behind it
  onward-sound : (k : ℕ) (t : List ℕ) (u : Usage) (s : List ℕ) → Joined P sign join t u
      → (v : Usage) (r : List ℕ) → onward sign join part k u s ≡ read v r → Took (Joined P sign join) (t ++ s) v r
  unfolding onward
  onward-sound zero t u s j v r e = took e (record { front = t; split = refl; text = j })
  onward-sound (suc k) t u s j v r e = go (eqb (at s 0) sign) refl (part (drop 1 s)) refl (onward-sound k)
    where
      go : (b : Bool) → eqb (at s 0) sign ≡ b → (x : Read) → part (drop 1 s) ≡ x
          → ((t : List ℕ) (u : Usage) (s : List ℕ) → Joined P sign join t u
          → (v : Usage) (r : List ℕ) → onward sign join part k u s ≡ read v r → Took (Joined P sign join) (t ++ s) v r)
          → Took (Joined P sign join) (t ++ s) v r
      go false p x q ih = took (sym (at-end sign join part k u s p) ∙ e) (record { front = t; split = refl; text = j })
      go true p unread q ih = not-read (sym (at_gap sign join part k u s p q) ∙ e)
      go true p (read w r') q ih =
          let n = ok (drop 1 s) w r' q in
          let m = ih (t ++ (sign ∷ n.front)) (join u w) r' (more j n.text) v r (sym (at_sign sign join part k u s w r' p q) ∙ e) in
          record {
            front = m.front;
            split = ap (λ (l : List ℕ). t ++ l) (begins sign s positive (eqb-true (at s 0) sign p) ∙ ap (λ (l : List ℕ). sign ∷ l) n.split)
                ∙ sym (append_assoc t (sign ∷ n.front) r') ∙ m.split;
            text = m.text;
          }

  chain-sound : Sound (Joined P sign join) (chain sign join part)
  unfolding chain chain_from
  chain-sound s v r e = go (part s) refl e
    where
      go : (x : Read) → part s ≡ x → chain_from sign join part x ≡ read v r → Took (Joined P sign join) s v r
      go unread q e = not-read e
      go (read u q) p e =
          let n = ok s u q p in
          let m = onward-sound (length q) n.front u q (single n.text) v r e in
          record { front = m.front; split = n.split ∙ m.split; text = m.text }

module _ (P : Texts) (inside : List ℕ → Read) (ok : Sound P inside) where
  pub sound-prefixed : Sound (Prefixed P) (read_prefixed inside)
  unfolding read_prefixed
  sound-prefixed s u r e = prefixed-sound P inside ok (suc (length s)) s u r e

  pub sound-shuffle : Sound (Shuffle P) (read_shuffle inside)
  unfolding read_shuffle
  sound-shuffle s u r e = chain-sound (Prefixed P) (read_prefixed inside) star (lit< tt) both sound-prefixed s u r e

  pub sound-choice : Sound (Choice P) (read_choice inside)
  unfolding read_choice
  sound-choice s u r e = chain-sound (Shuffle P) (read_shuffle inside) ampersand (lit< tt) either sound-shuffle s u r e

pub sound-inside : (d : ℕ) → Sound (Inside d) (read_inside d)
unfolding Inside read_inside
sound-inside zero s u r e = not-read e
sound-inside (suc d) s u r e = sound-choice (Inside d) (read_inside d) (sound-inside d) s u r e

-- what is read with brackets nested at most d deep is such a text, and then the rest
pub sound-text : (d : ℕ) → Sound (TextOf d) (read_text d)
sound-text d = sound-choice (Inside d) (read_inside d) (sound-inside d)
