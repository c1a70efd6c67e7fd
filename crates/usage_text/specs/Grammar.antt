-- Q-11: "Read a text with `0`, `L.U`, `^L.U`, `U&U`, `U*U` for the paper's ⊗, and brackets." Which byte strings are a text of which usage.
-- Nothing here says how a text is read: specs/Exact.antt holds the reader to it.
use Rattle.std.specs.Prelude.{List, [], ◌∷◌, ◌++◌, ℕ, zero, suc}
use Rattle.usages.specs.Usage.{Usage, done, lock, unlock, either, both}
use Rattle.usage_text.specs.Signs.{nought, ell, dot, hat, ampersand, star, open_sign, close_sign}

-- a sort of texts: which byte strings it has, and of which usage each is a text
abbrev pub Texts : Type 1
Texts = List ℕ → Usage → Type 0

-- "A prefix binds tightest": 0 or a bracket, or one of these behind prefixes. Inside is what a bracket may hold
pub data Prefixed (Inside : Texts) : List ℕ → Usage → Type 0 where
  plain : Prefixed Inside (nought ∷ []) done
  locked : {s : List ℕ} {u : Usage} → Prefixed Inside s u → Prefixed Inside (ell ∷ dot ∷ s) (lock u)
  unlocked : {s : List ℕ} {u : Usage} → Prefixed Inside s u → Prefixed Inside (hat ∷ ell ∷ dot ∷ s) (unlock u)
  bracket : {s : List ℕ} {u : Usage} → Inside s u → Prefixed Inside (open_sign ∷ (s ++ (close_sign ∷ []))) u

-- "both group to the left": one part, or several with a sign between them, the last joined to all before it
pub data Joined (Part : Texts) (sign : ℕ) (join : Usage → Usage → Usage) : List ℕ → Usage → Type 0 where
  single : {s : List ℕ} {u : Usage} → Part s u → Joined Part sign join s u
  more : {s t : List ℕ} {u v : Usage} → Joined Part sign join s u → Part t v → Joined Part sign join (s ++ (sign ∷ t)) (join u v)

-- "then `*`": its parts are prefixed
abbrev pub Shuffle : Texts → Texts
Shuffle inside = Joined (Prefixed inside) star both

-- "then `&`": its parts are shuffles
abbrev pub Choice : Texts → Texts
Choice inside = Joined (Shuffle inside) ampersand either

-- what a bracket may hold where brackets may still be nested d deep
unfoldable pub Inside : ℕ → Texts
Inside zero s u = ⊥
Inside (suc d) s u = Choice (Inside d) s u

-- s is a text of u, "brackets nested at most" d "deep"
abbrev pub TextOf : ℕ → Texts
TextOf d = Choice (Inside d)
