-- What comes of a function again and again: a walk is such an orbit of its turns.
use Rattle.std.proofs.Common.{◌≡◌, ◌≢◌, ℕ, zero, suc, ◌+◌, ◌-◌, ◌*◌, ◌/◌, ◌%◌, ◌<◌, List, [], ◌∷◌, ◌++◌, length, get_or, AllPairs, refl, ap, sym, ◌∙◌, arith, add-zero, add-suc}
use Rattle.turn_policies.specs.declared.edge.Edge.{Edge}
use Rattle.path_decompose.specs.Walk.{IsTrail}

-- what f leads to after k steps
abbrev pub nth_after : {A : Type 0} → (A → A) → ℕ → A → A
nth_after f zero s = s
nth_after f (suc k) s = f (nth_after f k s)

-- the first n of these
abbrev pub orbit : {A : Type 0} → (A → A) → ℕ → A → List A
orbit f zero s = []
orbit f (suc n) s = s ∷ orbit f n (f s)

-- s doesn't come again in the first n steps
abbrev pub NoReturn : {A : Type 0} → (A → A) → ℕ → A → Type 0
NoReturn f n s = (k : ℕ) → k < n → nth_after f (suc k) s ≢ s

pub nth_after-step : {A : Type 0} (f : A → A) (k : ℕ) (s : A) → nth_after f k (f s) ≡ f (nth_after f k s)
nth_after-step f zero s = refl
nth_after-step f (suc k) s = ap f (nth_after-step f k s)

pub nth_after-keeps : {A : Type 0} (f : A → A) (P : A → Type 0) → ((e : A) → P e → P (f e)) → (s : A) → P s → (k : ℕ) → P (nth_after f k s)
nth_after-keeps f P keeps s p zero = p
nth_after-keeps f P keeps s p (suc k) = keeps (nth_after f k s) (nth_after-keeps f P keeps s p k)

pub length-orbit : {A : Type 0} (f : A → A) (n : ℕ) (s : A) → length (orbit f n s) ≡ n
length-orbit f zero s = refl
length-orbit f (suc n) s = ap suc (length-orbit f n (f s))

pub orbit_push : {A : Type 0} (f : A → A) (n : ℕ) (s : A) → orbit f (suc n) s ≡ orbit f n s ++ nth_after f n s ∷ []
orbit_push f zero s = refl
orbit_push f (suc n) s = ap (λ es. s ∷ es) (orbit_push f n (f s) ∙ ap (λ e. orbit f n (f s) ++ e ∷ []) (nth_after-step f n s))

pub get_or-orbit : {A : Type 0} (f : A → A) (n i : ℕ) (s d : A) → i < n → get_or (orbit f n s) i d ≡ nth_after f i s
get_or-orbit f zero i s d h = absurd (omega arith)
get_or-orbit f (suc n) zero s d h = refl
get_or-orbit f (suc n) (suc i) s d h = get_or-orbit f n i (f s) d (omega arith) ∙ nth_after-step f i s

-- g undoes f where P holds: then equal places of the orbit are equal i steps before
cancel : {A : Type 0} (f g : A → A) (P : A → Type 0) → ((e : A) → P e → P (f e)) → ((e : A) → P e → g (f e) ≡ e) → (s : A) → P s → (i m : ℕ) → nth_after f i s ≡ nth_after f (m + i) s → s ≡ nth_after f m s
cancel f g P keeps undoes s p zero m e = e ∙ ap (λ k. nth_after f k s) (add-zero m)
cancel f g P keeps undoes s p (suc i) m e =
    cancel f g P keeps undoes s p i m
    (sym (undoes _ (nth_after-keeps f P keeps s p i))
    ∙ ap g (e ∙ ap (λ k. nth_after f k s) (add-suc m i))
    ∙ undoes _ (nth_after-keeps f P keeps s p (m + i)))

-- Where f can be undone, an orbit that doesn't come back to its beginning has no element twice.
pub distinct_orbit : {A : Type 0} (f g : A → A) (P : A → Type 0) → ((e : A) → P e → P (f e)) → ((e : A) → P e → g (f e) ≡ e) → (n : ℕ) (s : A) → P s → NoReturn f n s → AllPairs (λ d e. d ≢ e) (orbit f (suc n) s)
distinct_orbit f g P keeps undoes n s p h = λ i j d below within e.
    let short : j < suc n = rw (← length-orbit f (suc n) s) within in
    let k : ℕ = j - suc i in
    let at : suc k + i ≡ j = omega arith in
    let same : nth_after f i s ≡ nth_after f (suc k + i) s =
    sym (get_or-orbit f (suc n) i s d (omega arith)) ∙ e ∙ get_or-orbit f (suc n) j s d short ∙ ap (λ m. nth_after f m s) (sym at) in
    h k (omega arith) (sym (cancel f g P keeps undoes s p i (suc k) same))

-- a run is an orbit
pub run-orbit : (f : Edge → Edge) (es : List Edge) (a z : Edge) → IsTrail f a es z → (es ≡ orbit f (length es) a) × (nth_after f (length es) a ≡ z)
run-orbit f [] a z run = (refl, run)
run-orbit f (e ∷ es) a z run =
    let rest = run-orbit f es (f e) z run.1 in
    (ap (λ d. d ∷ es) run.0 ∙ ap (λ ds. a ∷ ds) (rest.0 ∙ ap (λ d. orbit f (length es) (f d)) run.0), sym (nth_after-step f (length es) a) ∙ ap (λ d. nth_after f (length es) (f d)) (sym run.0) ∙ rest.1)

-- an orbit is a run
pub orbit_run : (f : Edge → Edge) (n : ℕ) (a z : Edge) → nth_after f n a ≡ z → IsTrail f a (orbit f n a) z
orbit_run f zero a z e = e
orbit_run f (suc n) a z e = (refl, orbit_run f n (f a) z (nth_after-step f n a ∙ e))

nth_after-add : {A : Type 0} (f : A → A) (m k : ℕ) (s : A) → nth_after f (m + k) s ≡ nth_after f m (nth_after f k s)
nth_after-add f zero k s = ap (λ n. nth_after f n s) (omega arith)
nth_after-add f (suc m) k s =
    let e : suc m + k ≡ suc (m + k) = omega arith in
    ap (λ n. nth_after f n s) e ∙ ap f (nth_after-add f m k s)

nth_after-rounds : {A : Type 0} (f : A → A) (n : ℕ) (s : A) → nth_after f n s ≡ s → (q : ℕ) → nth_after f (q * n) s ≡ s
nth_after-rounds f n s e zero =
    let none : zero * n ≡ zero = omega arith in
    ap (λ m. nth_after f m s) none
nth_after-rounds f n s e (suc q) =
    let more : suc q * n ≡ n + q * n = omega arith in
    ap (λ m. nth_after f m s) more ∙ nth_after-add f n (q * n) s ∙ ap (nth_after f n) (nth_after-rounds f n s e q) ∙ e

-- once the beginning has come again, all comes again
pub nth_after-mod : {A : Type 0} (f : A → A) (n : ℕ) (s : A) → 0 < n → nth_after f n s ≡ s → (k : ℕ) → nth_after f (k % n) s ≡ nth_after f k s
nth_after-mod f n s some e k =
    let parts : k ≡ k % n + k / n * n = omega arith in
    sym (ap (λ m. nth_after f m s) parts ∙ nth_after-add f (k % n) (k / n * n) s ∙ ap (nth_after f (k % n)) (nth_after-rounds f n s e (k / n)))
