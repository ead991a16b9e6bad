-- A vector of a file is as long as before after another is written.
use Rattle.std.proofs.Common.{◌≡◌, ℕ, ◌<◌, All, List, [], length, set, get_or}
use Rattle.std.proofs.lemmas.List.{length-set}
use Rattle.std.proofs.lemmas.List.Elements.{All-set, All-get_or, All-weaker}
use Rattle.pf_machine.specs.Meaning.Bytes.{AreBytes}

pub long_after : (n : ℕ) (vs : List (List ℕ)) (a k : ℕ) (held : List ℕ) → All (λ v. AreBytes n v) vs → length held ≡ n → k < length vs → length (get_or (set vs a held) k []) ≡ n
long_after n vs a k held are long inside =
    let sizes : All (λ v. length v ≡ n) vs = All-weaker (λ v. AreBytes n v) (λ v. length v ≡ n) (λ v are. are.size) vs are in
    All-get_or (λ v. length v ≡ n) (set vs a held) k [] (rw (length-set vs a held) inside) (All-set (λ v. length v ≡ n) vs a held long sizes)
