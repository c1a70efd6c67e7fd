-- Every text by the grammar is read as its usage, whatever lies behind it that could not go on with it.
use mathlib.Core.Path.{◌≡◌, refl, ap, ◌∙◌}
use mathlib.Core.List.{List, [], ◌∷◌, ◌++◌, append_assoc}
use mathlib.Core.Bool.{true, false}
use Prim.Native.Nat.{ℕ, zero, suc, ◌<◌}
use lib.Dec.{eqb, lit<}
use lib.ListN.{length}
use borrow.Author.Tests.{eq-eqb}
use Rattle.ground.specs.Bytes.{at}
use Rattle.usages.specs.Usage.{Usage, lock, unlock, either, both}
use Rattle.usage_text.specs.Signs.{nought, ell, dot, hat, ampersand, star, open_sign, close_sign}
use Rattle.usage_text.specs.Grammar.{Texts, Joined, single, more, Prefixed, plain, locked, unlocked, bracket, Shuffle, Choice, Inside, TextOf}
use Rattle.usage_text.specs.declared.Head.TheVariants.{Nought, Lock, Unlock, Open}
use Rattle.usage_text.specs.Reading.{Read, read, head_of, under, closed, onward, chain_from, chain, read_prefixed, read_shuffle, read_choice, read_inside, read_text}
use Rattle.usage_text.proofs.Sound.{Sound, sound-prefixed, sound-shuffle, sound-inside}
use Rattle.usage_text.proofs.Fuel.{read-nought, read-lock, read-unlock, read-open, rest-short, onward-stop, onward-more}

-- the sign does not follow
abbrev Stops : ℕ → List ℕ → Type 0
Stops sign r = eqb (at r 0) sign ≡ false

-- texts of this sort are read, in front of what Behind holds of
abbrev Full : Texts → (List ℕ → Type 0) → (List ℕ → Read) → Type 0
Full P Behind reads = (s : List ℕ) (u : Usage) → P s u → (r : List ℕ) → Behind r → reads (s ++ r) ≡ read u r

abbrev Anything : List ℕ → Type 0
Anything r = Unit

-- ---- heads of the texts
nought-head : (s : List ℕ) → head_of (nought ∷ s) ≡ Nought
unfolding head_of
nought-head s = refl

lock-head : (s : List ℕ) → head_of (ell ∷ dot ∷ s) ≡ Lock
unfolding head_of
lock-head s = refl

unlock-head : (s : List ℕ) → head_of (hat ∷ ell ∷ dot ∷ s) ≡ Unlock
unfolding head_of
unlock-head s = refl

open-head : (s : List ℕ) → head_of (open_sign ∷ s) ≡ Open
unfolding head_of
open-head s = refl

closes : (u : Usage) (r : List ℕ) → closed (read u (close_sign ∷ r)) ≡ read u r
unfolding closed
closes u r = refl

-- a closing bracket lies behind
abbrev Closing : List ℕ → Type 0
Closing l = (r : List ℕ) × (l ≡ close_sign ∷ r)

module _ (P : Texts) (inside : List ℕ → Read) (full : Full P Closing inside) where
  full-prefixed : Full (Prefixed P) Anything (read_prefixed inside)
  full-prefixed s u plain r t = read-nought inside (nought ∷ r) (nought-head r)
  full-prefixed s u (locked {s = q} {u = v} p) r t =
      read-lock inside (ell ∷ dot ∷ (q ++ r)) (lock-head (q ++ r)) ∙ ap (under lock) (full-prefixed q v p r t)
  full-prefixed s u (unlocked {s = q} {u = v} p) r t =
      read-unlock inside (hat ∷ ell ∷ dot ∷ (q ++ r)) (unlock-head (q ++ r)) ∙ ap (under unlock) (full-prefixed q v p r t)
  full-prefixed s u (bracket {s = q} {u = v} p) r t =
      read-open inside (open_sign ∷ ((q ++ (close_sign ∷ [])) ++ r)) (open-head ((q ++ (close_sign ∷ [])) ++ r))
      ∙ ap (λ (l : List ℕ). closed (inside l)) (append_assoc q (close_sign ∷ []) r)
      ∙ ap closed (full q v p (close_sign ∷ r) (r, refl))
      ∙ closes v r

module _ (P : Texts) (Behind : List ℕ → Type 0) (part : List ℕ → Read) (sign : ℕ) (positive : 0 < sign) (join : Usage → Usage → Usage)
    (ok : Sound P part) (full : Full P Behind part) (behind : (l : List ℕ) → Behind (sign ∷ l)) where
  sign-first : (l : List ℕ) → eqb (at (sign ∷ l) 0) sign ≡ true
  sign-first l = eq-eqb sign sign refl

  -- the parts so far are read, and the reading stands behind them
  joined : (s : List ℕ) (u : Usage) → Joined P sign join s u → (r : List ℕ) → Behind r
      → chain sign join part (s ++ r) ≡ onward sign join part (length r) u r
  unfolding chain chain_from
  joined s u (single p) r b = ap (chain_from sign join part) (full s u p r b)
  joined s u (more {s = q} {t = t} {u = v} {v = w} j p) r b =
      ap (chain sign join part) (append_assoc q (sign ∷ t) r)
      ∙ joined q v j (sign ∷ (t ++ r)) (behind (t ++ r))
      ∙ onward-more sign join part positive (rest-short ok) v w (sign ∷ (t ++ r)) r (sign-first (t ++ r)) (full t w p r b)

  full-joined : Full (Joined P sign join) (λ r. Behind r × Stops sign r) (chain sign join part)
  full-joined s u j r b = joined s u j r b.0 ∙ onward-stop sign join part (length r) u r b.1

-- neither * nor & follows
abbrev pub Ends : List ℕ → Type 0
Ends r = Stops star r × Stops ampersand r

module _ (P : Texts) (inside : List ℕ → Read) (ok : Sound P inside) (full : Full P Closing inside) where
  full-shuffle : Full (Shuffle P) (Stops star) (read_shuffle inside)
  unfolding read_shuffle
  full-shuffle s u j r b =
      full-joined (Prefixed P) Anything (read_prefixed inside) star (lit< tt) both
      (sound-prefixed P inside ok) (full-prefixed P inside full) (λ l. tt) s u j r (tt, b)

  full-choice : Full (Choice P) Ends (read_choice inside)
  unfolding read_choice
  full-choice s u j r b =
      full-joined (Shuffle P) (Stops star) (read_shuffle inside) ampersand (lit< tt) either
      (sound-shuffle P inside ok) full-shuffle (λ l. refl) s u j r b

full-inside : (d : ℕ) → Full (Inside d) Closing (read_inside d)
unfolding Inside read_inside
full-inside zero s u p r b = absurd p
full-inside (suc d) s u p r b =
    full-choice (Inside d) (read_inside d) (sound-inside d) (full-inside d) s u p r
    (rw b.1 refl, rw b.1 refl)

pub full-text : (d : ℕ) → Full (TextOf d) Ends (read_text d)
full-text d = full-choice (Inside d) (read_inside d) (sound-inside d) (full-inside d)
