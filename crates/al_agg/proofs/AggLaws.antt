-- The aggregates of one list behind another.
use Rattle.std.specs.Prelude.{All, ℕ, ℤ, pos, ◌+ℤ◌, ◌+◌, Bool, true, false, not, ◌&&◌, ◌||◌, ◌⊎◌, Some, List, [], ◌∷◌, ◌++◌, if◌then◌else◌}
use Rattle.std.specs.Int.{w128}
use Rattle.std.specs.Ordering.{ordering_reverse}
use Rattle.std.specs.declared.cmp.Ordering.{Ordering}
use Rattle.std.specs.declared.cmp.Ordering.TheVariants.{Less, Equal, Greater}
use Rattle.std.proofs.Common.{◌≡◌, refl, sym, ◌∙◌, ap, subst, inl, inr, arith, append-nil}
use Rattle.std.proofs.lemmas.Bool.{cases_Bool}
use Rattle.std.proofs.lemmas.List.Elements.{All-head, All-tail}
use Rattle.std.proofs.lemmas.Int.{ints, int_wrap-add_left, int_wrap-add_right}
use Rattle.al_value.specs.declared.value.Value.{Value}
use Rattle.al_value.specs.declared.value.Value.TheVariants as V
use Rattle.al_value.specs.Value.{IsValue, value_cmp}
use Rattle.al_value.proofs.ValueLaws.{value_cmp_total}
use Rattle.al_agg.specs.Agg.{wrapped, is_null, is_less, lesser, greater, least, greatest, ints_of, total}
use Rattle.al_agg.specs.Part.{some_sum, joined_sums}

-- ---- the order of values

less_from : (o : Ordering) → is_less o ≡ true → o ≡ Less
less_from Less e = refl
less_from Equal e = cc
less_from Greater e = cc

not_less : (o : Ordering) → is_less o ≡ false → (o ≡ Equal) ⊎ (o ≡ Greater)
not_less Less e = cc
not_less Equal e = inl refl
not_less Greater e = inr refl

turned : (v w : Value) (o : Ordering) → value_cmp v w ≡ o → value_cmp w v ≡ ordering_reverse o
turned v w o e = value_cmp_total.antisymm w v ∙ ap ordering_reverse e

less-trans : (a b c : Value) → is_less (value_cmp a b) ≡ true → is_less (value_cmp b c) ≡ true → is_less (value_cmp a c) ≡ true
less-trans a b c p q =
    ap is_less (value_cmp_total.trans a b c (less_from (value_cmp a b) p) (less_from (value_cmp b c) q))

not_less-trans : (a b c : Value) → is_less (value_cmp a b) ≡ false → is_less (value_cmp b c) ≡ false → is_less (value_cmp a c) ≡ false
not_less-trans a b c p q =
    elim (not_less (value_cmp a b) p) [
      | inl ab ↦ ap is_less (value_cmp_total.congr a b c ab) ∙ q
      | inr ab ↦ elim (not_less (value_cmp b c) q) [
        | inl bc ↦
            let ca : value_cmp c a ≡ Less = sym (value_cmp_total.congr b c a bc) ∙ turned a b Greater ab in
            ap is_less (turned c a Less ca)
        | inr bc ↦
            let ca : value_cmp c a ≡ Less = value_cmp_total.trans c b a (turned b c Greater bc) (turned a b Greater ab) in
            ap is_less (turned c a Less ca)
      ]
    ]

-- ---- the first of two values that no test puts behind the other

picked : (Value → Value → Bool) → Value → Value → Value
picked test v w = if test v w then w else v

picked-yes : (test : Value → Value → Bool) (v w : Value) → test v w ≡ true → picked test v w ≡ w
unfolding picked
picked-yes test v w e = rw e refl

picked-no : (test : Value → Value → Bool) (v w : Value) → test v w ≡ false → picked test v w ≡ v
unfolding picked
picked-no test v w e = rw e refl

-- of three values the same one is picked, whichever two come first
picked-assoc : (test : Value → Value → Bool) → ((a b c : Value) → test a b ≡ true → test b c ≡ true → test a c ≡ true) → ((a b c : Value) → test a b ≡ false → test b c ≡ false → test a c ≡ false) → (a b c : Value) → picked test a (picked test b c) ≡ picked test (picked test a b) c
picked-assoc test both neither a b c =
    elim (cases_Bool (test a b)) [
      | inl ab ↦ elim (cases_Bool (test b c)) [
        | inl bc ↦ cc (picked-yes test a b ab, picked-yes test b c bc, picked-yes test a c (both a b c ab bc))
        | inr bc ↦ cc (picked-yes test a b ab, picked-no test b c bc)
      ]
      | inr ab ↦ elim (cases_Bool (test b c)) [
        | inl bc ↦ cc (picked-no test a b ab, picked-yes test b c bc)
        | inr bc ↦ cc (picked-no test a b ab, picked-no test b c bc, picked-no test a c (neither a b c ab bc))
      ]
    ]

greater_is : (v w : Value) → greater v w ≡ picked (λ a b. is_less (value_cmp a b)) v w
unfolding picked
greater_is V.Null V.Null = refl
greater_is V.Null (V.Bool b) = refl
greater_is V.Null (V.Int b) = refl
greater_is V.Null (V.Text b) = refl
greater_is (V.Bool a) V.Null = refl
greater_is (V.Bool a) (V.Bool b) = refl
greater_is (V.Bool a) (V.Int b) = refl
greater_is (V.Bool a) (V.Text b) = refl
greater_is (V.Int a) V.Null = refl
greater_is (V.Int a) (V.Bool b) = refl
greater_is (V.Int a) (V.Int b) = refl
greater_is (V.Int a) (V.Text b) = refl
greater_is (V.Text a) V.Null = refl
greater_is (V.Text a) (V.Bool b) = refl
greater_is (V.Text a) (V.Int b) = refl
greater_is (V.Text a) (V.Text b) = refl

-- whether the second value is before the first, where NULL is behind all
is_before : Value → Value → Bool
is_before v w = not (is_null w) && (is_null v || is_less (value_cmp w v))

lesser_is : (v w : Value) → lesser v w ≡ picked is_before v w
unfolding picked is_before
lesser_is V.Null V.Null = refl
lesser_is V.Null (V.Bool b) = refl
lesser_is V.Null (V.Int b) = refl
lesser_is V.Null (V.Text b) = refl
lesser_is (V.Bool a) V.Null = refl
lesser_is (V.Bool a) (V.Bool b) = refl
lesser_is (V.Bool a) (V.Int b) = refl
lesser_is (V.Bool a) (V.Text b) = refl
lesser_is (V.Int a) V.Null = refl
lesser_is (V.Int a) (V.Bool b) = refl
lesser_is (V.Int a) (V.Int b) = refl
lesser_is (V.Int a) (V.Text b) = refl
lesser_is (V.Text a) V.Null = refl
lesser_is (V.Text a) (V.Bool b) = refl
lesser_is (V.Text a) (V.Int b) = refl
lesser_is (V.Text a) (V.Text b) = refl

both_tests : (na nb nc ba cb ca : Bool) → (cb ≡ true → ba ≡ true → ca ≡ true) → (not nb && (na || ba)) ≡ true → (not nc && (nb || cb)) ≡ true → (not nc && (na || ca)) ≡ true
both_tests true nb true ba cb ca h p q = cc
both_tests true nb false ba cb ca h p q = refl
both_tests false true nc ba cb ca h p q = cc
both_tests false false true ba cb ca h p q = cc
both_tests false false false ba cb ca h p q = h q p

neither_test : (na nb nc ba cb ca : Bool) → (cb ≡ false → ba ≡ false → ca ≡ false) → (not nb && (na || ba)) ≡ false → (not nc && (nb || cb)) ≡ false → (not nc && (na || ca)) ≡ false
neither_test na nb true ba cb ca h p q = refl
neither_test na true false ba cb ca h p q = cc
neither_test true false false ba cb ca h p q = cc
neither_test false false false ba cb ca h p q = h q p

is_before-trans : (a b c : Value) → is_before a b ≡ true → is_before b c ≡ true → is_before a c ≡ true
unfolding is_before
is_before-trans a b c p q =
    both_tests (is_null a) (is_null b) (is_null c) (is_less (value_cmp b a)) (is_less (value_cmp c b)) (is_less (value_cmp c a)) (less-trans c b a) p q

not_before-trans : (a b c : Value) → is_before a b ≡ false → is_before b c ≡ false → is_before a c ≡ false
unfolding is_before
not_before-trans a b c p q =
    neither_test (is_null a) (is_null b) (is_null c) (is_less (value_cmp b a)) (is_less (value_cmp c b)) (is_less (value_cmp c a)) (not_less-trans c b a) p q

greater-assoc : (a b c : Value) → greater a (greater b c) ≡ greater (greater a b) c
greater-assoc a b c =
    let test : Value → Value → Bool = λ v w. is_less (value_cmp v w) in
    cc (greater_is b c, greater_is a (greater b c), greater_is a b, greater_is (greater a b) c, picked-assoc test less-trans not_less-trans a b c)

lesser-assoc : (a b c : Value) → lesser a (lesser b c) ≡ lesser (lesser a b) c
lesser-assoc a b c =
    cc (lesser_is b c, lesser_is a (lesser b c), lesser_is a b, lesser_is (lesser a b) c, picked-assoc is_before is_before-trans not_before-trans a b c)

-- ---- one list behind another

pub least-append : (vs ws : List Value) → least (vs ++ ws) ≡ lesser (least vs) (least ws)
least-append [] ws = refl
least-append (v ∷ vs) ws = ap (lesser v) (least-append vs ws) ∙ lesser-assoc v (least vs) (least ws)

pub greatest-append : (vs ws : List Value) → greatest (vs ++ ws) ≡ greater (greatest vs) (greatest ws)
greatest-append [] ws = refl
greatest-append (v ∷ vs) ws = ap (greater v) (greatest-append vs ws) ∙ greater-assoc v (greatest vs) (greatest ws)

pub least-one : (v : Value) → least (v ∷ []) ≡ v
least-one V.Null = refl
least-one (V.Bool b) = refl
least-one (V.Int z) = refl
least-one (V.Text bytes) = refl

pub greatest-one : (v : Value) → greatest (v ∷ []) ≡ v
greatest-one V.Null = refl
greatest-one (V.Bool b) = refl
greatest-one (V.Int z) = refl
greatest-one (V.Text bytes) = refl

picked-valid : (test : Value → Value → Bool) (v w : Value) → IsValue v → IsValue w → IsValue (picked test v w)
picked-valid test v w p q =
    elim (cases_Bool (test v w)) [
      | inl e ↦ subst IsValue (sym (picked-yes test v w e)) q
      | inr e ↦ subst IsValue (sym (picked-no test v w e)) p
    ]

-- the least and the greatest of values of the program are values of the program
pub least-valid : (vs : List Value) → All IsValue vs → IsValue (least vs)
least-valid [] valid = tt
least-valid (v ∷ vs) valid =
    subst IsValue (sym (lesser_is v (least vs))) (picked-valid is_before v (least vs) (All-head IsValue v vs valid) (least-valid vs (All-tail IsValue v vs valid)))

pub greatest-valid : (vs : List Value) → All IsValue vs → IsValue (greatest vs)
greatest-valid [] valid = tt
greatest-valid (v ∷ vs) valid =
    subst IsValue (sym (greater_is v (greatest vs))) (picked-valid (λ a b. is_less (value_cmp a b)) v (greatest vs) (All-head IsValue v vs valid) (greatest-valid vs (All-tail IsValue v vs valid)))

pub ints_of-append : (vs ws : List Value) → ints_of (vs ++ ws) ≡ ints_of vs ++ ints_of ws
ints_of-append [] ws = refl
ints_of-append (V.Null ∷ vs) ws = ints_of-append vs ws
ints_of-append (V.Bool b ∷ vs) ws = ints_of-append vs ws
ints_of-append (V.Int z ∷ vs) ws = ap (λ (ns : List ℤ). z ∷ ns) (ints_of-append vs ws)
ints_of-append (V.Text bytes ∷ vs) ws = ints_of-append vs ws

total-append : (ms ns : List ℤ) → total (ms ++ ns) ≡ total ms +ℤ total ns
total-append [] ns = omega (arith, ints)
total-append (m ∷ ms) ns = let rest = total-append ms ns in omega (arith, ints, rest)

-- numbers may be wrapped before they are added
wrapped-add : (a b : ℤ) → wrapped (wrapped a +ℤ wrapped b) ≡ wrapped (a +ℤ b)
wrapped-add a b = int_wrap-add_left w128 a (wrapped b) ∙ int_wrap-add_right w128 a b

pub some_sum-append : (ms ns : List ℤ) → some_sum (ms ++ ns) ≡ joined_sums (some_sum ms) (some_sum ns)
some_sum-append [] ns = refl
some_sum-append (m ∷ ms) [] = ap some_sum (append-nil (m ∷ ms))
some_sum-append (m ∷ ms) (n ∷ ns) =
    ap Some (ap wrapped (total-append (m ∷ ms) (n ∷ ns)) ∙ sym (wrapped-add (total (m ∷ ms)) (total (n ∷ ns))))

-- how many there are in two lists
pub wrapped-count : (m n : ℕ) → wrapped (wrapped (pos m) +ℤ wrapped (pos n)) ≡ wrapped (pos (m + n))
wrapped-count m n = wrapped-add (pos m) (pos n)

pub wrapped-next : (m : ℕ) → wrapped (wrapped (pos m) +ℤ pos 1) ≡ wrapped (pos (m + 1))
wrapped-next m = int_wrap-add_left w128 (pos m) (pos 1)
