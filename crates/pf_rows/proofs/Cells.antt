-- Parts of bytes that are written over, and lists of parts one after another.
use Rattle.std.proofs.Common.{◌≡◌, ℕ, zero, suc, ◌+◌, ◌-◌, ◌*◌, ◌<◌, ◌≤◌, List, [], ◌∷◌, ◌++◌, length, take, drop, set, get_or, refl, arith, ap, sym, ◌∙◌, ⊎_elim, ◌⊎◌, append_assoc, length-append, length-take, length-drop}
use Rattle.std.specs.Prelude.{replicate}
use Rattle.std.specs.List.{concat}
use Rattle.std.proofs.Math.Seq.{take-add}
use Rattle.std.proofs.lemmas.List.{drop_at, drop-drop, take_all, take-append-le, drop-append-le, get_or-set_same, get_or-set_other, get_or-replicate, length-set, length-replicate, length-take-le}
use Rattle.std.proofs.lemmas.Nat.{column_fits}
use Rattle.std.proofs.lemmas.Bool.{cases_order, cases_eq}
use Rattle.pf_machine.proofs.MemoryLaws.{overwritten, take-drop-part}

-- a part of bytes
abbrev pub part : ℕ → ℕ → List ℕ → List ℕ
part a c held = take c (drop a held)

-- before what is written
pub part-before : (held new : List ℕ) (n a c : ℕ) → a + c ≤ n → n + length new ≤ length held → part a c (overwritten held n new) ≡ part a c held
part-before held new n a c before fits =
    let front = take n held in
    let rest = new ++ drop (n + length new) held in
    let long : length front ≡ n = length-take-le n held (omega arith) in
    let cut : drop a (front ++ rest) ≡ drop a front ++ rest = drop-append-le a front rest (omega arith) in
    let size : length (drop a front) ≡ n - a = length-drop a front ∙ ap (λ l. l - a) long in
    let whole : take c (drop a front ++ rest) ≡ take c (drop a front) = take-append-le c (drop a front) rest (omega arith) in
    let sum : 0 + a ≡ a = omega arith in
    ap (λ l. take c l) cut ∙ whole ∙ take-drop-part held 0 n a c before ∙ ap (λ k. take c (drop k held)) sum

-- behind what is written
pub part-behind : (held new : List ℕ) (n a c : ℕ) → n + length new ≤ a → n + length new ≤ length held → part a c (overwritten held n new) ≡ part a c held
part-behind held new n a c behind fits =
    let m = n + length new in
    let front = take n held ++ new in
    let long : length front ≡ m = length-append (take n held) new ∙ ap (λ k. k + length new) (length-take-le n held (omega arith)) in
    let whole : overwritten held n new ≡ front ++ drop m held = sym (append_assoc (take n held) new (drop m held)) in
    let past : drop m (overwritten held n new) ≡ drop m held = ap (λ l. drop m l) whole ∙ drop_at front (drop m held) m long in
    let sum : a ≡ m + (a - m) = omega arith in
    let left : drop a (overwritten held n new) ≡ drop (a - m) (drop m (overwritten held n new)) = ap (λ k. drop k (overwritten held n new)) sum ∙ sym (drop-drop (a - m) m (overwritten held n new)) in
    let right : drop a held ≡ drop (a - m) (drop m held) = ap (λ k. drop k held) sum ∙ sym (drop-drop (a - m) m held) in
    ap (λ l. take c l) (left ∙ ap (λ l. drop (a - m) l) past ∙ sym right)

-- within what is written
pub part-within : (held new : List ℕ) (n a d c : ℕ) → a ≡ n + d → d + c ≤ length new → n + length new ≤ length held
    → part a c (overwritten held n new) ≡ part d c new
part-within held new n a d c place inside fits =
    let rest = drop (n + length new) held in
    let long : length (take n held) ≡ n = length-take-le n held (omega arith) in
    let past : drop n (overwritten held n new) ≡ new ++ rest = drop_at (take n held) (new ++ rest) n long in
    let left : drop a (overwritten held n new) ≡ drop d (new ++ rest) = ap (λ k. drop k (overwritten held n new)) place ∙ sym (drop-drop d n (overwritten held n new)) ∙ ap (λ l. drop d l) past in
    let cut : drop d (new ++ rest) ≡ drop d new ++ rest = drop-append-le d new rest (omega arith) in
    let size : length (drop d new) ≡ length new - d = length-drop d new in
    ap (λ l. take c l) (left ∙ cut) ∙ take-append-le c (drop d new) rest (omega arith)

-- bytes that agree from one place to another
pub record Agree (low high : ℕ) (held other : List ℕ) : Type 0 where
  pub each : (a c : ℕ) → low ≤ a → a + c ≤ high → part a c other ≡ part a c held

pub agree-trans : (low high : ℕ) (x y z : List ℕ) → Agree low high x y → Agree low high y z → Agree low high x z
agree-trans low high x y z one two = record { each = λ a c from to. two.each a c from to ∙ one.each a c from to }

pub agree-same : (low high : ℕ) (x : List ℕ) → Agree low high x x
agree-same low high x = record { each = λ a c from to. refl }

pub agree-within : (low high l h : ℕ) (x y : List ℕ) → low ≤ l → h ≤ high → Agree low high x y → Agree l h x y
agree-within low high l h x y from to all = record { each = λ a c f t. all.each a c (omega arith) (omega arith) }

pub agree-before : (low high n : ℕ) (held new : List ℕ) → high ≤ n → n + length new ≤ length held → Agree low high held (overwritten held n new)
agree-before low high n held new before fits = record { each = λ a c from to. part-before held new n a c (omega arith) fits }

pub agree-behind : (low high n : ℕ) (held new : List ℕ) → n + length new ≤ low → n + length new ≤ length held → Agree low high held (overwritten held n new)
agree-behind low high n held new behind fits = record { each = λ a c from to. part-behind held new n a c (omega arith) fits }

-- the cells that have their size stand one after another from the base on
pub record Cells (base size : ℕ) (cells : List (List ℕ)) (held : List ℕ) : Type 0 where
  pub each : (k : ℕ) → k < length cells → length (get_or cells k []) ≡ size → part (base + size * k) size held ≡ get_or cells k []

pub cells-agree : (base size : ℕ) (cells : List (List ℕ)) (held other : List ℕ) → Cells base size cells held
    → Agree base (base + size * length cells) held other → Cells base size cells other
cells-agree base size cells held other there same = record {
  each = λ k inside full.
      let fits : size * k + size ≤ size * length cells = column_fits size k size (length cells) inside (omega arith) in
      same.each (base + size * k) size (omega arith) (omega arith) ∙ there.each k inside full;
}

apart_order : (k j : ℕ) → (k ≡ j → ⊥) → (k < j) ⊎ (j < k)
apart_order k j other = ⊎_elim (λ (same : k ≡ j). absurd (other same)) (λ (rest : (k < j) ⊎ (j < k)). rest) (cases_order k j)

-- one cell is written
pub cells-set : (base size j : ℕ) (cells : List (List ℕ)) (held new : List ℕ) → Cells base size cells held → j < length cells → length new ≡ size
    → base + size * length cells ≤ length held
    → Cells base size (set cells j new) (overwritten held (base + size * j) new)
cells-set base size j cells held new there inside long fits =
    let room : size * j + size ≤ size * length cells = column_fits size j size (length cells) inside (omega arith) in
    let fit : base + size * j + length new ≤ length held = omega arith in
    record {
      each = λ k within full.
          let within' : k < length cells = omega (arith, length-set cells j new) in
          ⊎_elim
          (λ (same : k ≡ j).
          let none : base + size * k ≡ base + size * j + 0 = ap (λ i. base + size * i) same ∙ omega arith in
          let cell : get_or (set cells j new) k [] ≡ new = ap (λ i. get_or (set cells j new) i []) same ∙ get_or-set_same cells j new [] inside in
          part-within held new (base + size * j) (base + size * k) 0 size none (omega arith) fit ∙ take_all size new (omega arith) ∙ sym cell)
          (λ (other : k ≡ j → ⊥).
          let cell : get_or (set cells j new) k [] ≡ get_or cells k [] = get_or-set_other cells j k new [] other in
          let full' : length (get_or cells k []) ≡ size = sym (ap length cell) ∙ full in
          let untouched : part (base + size * k) size (overwritten held (base + size * j) new) ≡ part (base + size * k) size held =
          ⊎_elim
          (λ (less : k < j).
          let under : size * k + size ≤ size * j = column_fits size k size j less (omega arith) in
          part-before held new (base + size * j) (base + size * k) size (omega arith) fit)
          (λ (more : j < k).
          let over : size * j + size ≤ size * k = column_fits size j size k more (omega arith) in
          part-behind held new (base + size * j) (base + size * k) size (omega arith) fit)
          (apart_order k j other) in
          untouched ∙ there.each k within' full' ∙ sym cell)
          (cases_eq k j);
    }

-- no cell is there yet
pub cells-none : (base size count : ℕ) (held : List ℕ) → 0 < size → Cells base size (replicate count []) held
cells-none base size count held some = record {
  each = λ k inside full.
      let none : List ℕ = [] in
      let cells : List (List ℕ) = replicate count none in
      let long : length cells ≡ count = length-replicate count none in
      let within : k < count = omega arith in
      let empty : get_or (replicate count []) k [] ≡ [] = get_or-replicate count k [] [] within in
      let nothing : length (get_or (replicate count []) k []) ≡ 0 = ap length empty in
      let clash : 0 ≡ size = sym nothing ∙ full in
      absurd (omega arith);
}

-- the cells that bytes have
abbrev pub cells_of : (base size count : ℕ) → List ℕ → List (List ℕ)
cells_of base size zero held = []
cells_of base size (suc count) held = part base size held ∷ cells_of (base + size) size count held

pub length-cells_of : (base size count : ℕ) (held : List ℕ) → length (cells_of base size count held) ≡ count
length-cells_of base size zero held = refl
length-cells_of base size (suc count) held = ap suc (length-cells_of (base + size) size count held)

pub get_or-cells_of : (base size count k : ℕ) (held : List ℕ) → k < count → get_or (cells_of base size count held) k [] ≡ part (base + size * k) size held
get_or-cells_of base size zero k held inside = absurd (omega arith)
get_or-cells_of base size (suc count) zero held inside = let none : base + size * 0 ≡ base = omega arith in ap (λ a. part a size held) (sym none)
get_or-cells_of base size (suc count) (suc k) held inside =
    let sum : base + size + size * k ≡ base + size * suc k = omega arith in
    get_or-cells_of (base + size) size count k held (omega arith) ∙ ap (λ a. part a size held) sum

pub length-part : (a c : ℕ) (held : List ℕ) → a + c ≤ length held → length (part a c held) ≡ c
length-part a c held inside = simp (length-take, length-drop) (omega arith)

pub cells-of : (base size count : ℕ) (held : List ℕ) → Cells base size (cells_of base size count held) held
cells-of base size count held = record {
  each = λ k inside full. sym (get_or-cells_of base size count k held (omega (arith, length-cells_of base size count held)));
}

-- cells that are all there are the bytes
pub cells-joined : (base size : ℕ) (cells : List (List ℕ)) (held : List ℕ) → Cells base size cells held
    → ((k : ℕ) → k < length cells → length (get_or cells k []) ≡ size) → part base (size * length cells) held ≡ concat cells
cells-joined base size [] held there full =
    let none : size * 0 ≡ 0 = omega arith in
    ap (λ c. part base c held) none
cells-joined base size (cell ∷ cells) held there full =
    let sum : size * suc (length cells) ≡ size + size * length cells = omega arith in
    let none : base + size * 0 ≡ base = omega arith in
    let first : part base size held ≡ cell = ap (λ a. part a size held) (sym none) ∙ there.each 0 (omega arith) (full 0 (omega arith)) in
    let later : Cells (base + size) size cells held = record {
      each = λ k inside big.
          let place : base + size + size * k ≡ base + size * suc k = omega arith in
          ap (λ a. part a size held) place ∙ there.each (suc k) (omega arith) big;
    } in
    let rest : part (base + size) (size * length cells) held ≡ concat cells = cells-joined (base + size) size cells held later (λ k inside. full (suc k) (omega arith)) in
    ap (λ c. part base c held) sum ∙ take-add size (size * length cells) (drop base held) ∙ ap (λ l. take size (drop base held) ++ l) (ap (λ l. take (size * length cells) l) (drop-drop size base held) ∙ rest) ∙ ap (λ l. l ++ concat cells) first
