-- The numbers in a statement fit their types.
use Rattle.std.proofs.Common.{◌≡◌, ℕ, ◌+◌, ◌-◌, ◌*◌, ◌<◌, ◌^◌, Bool, true, false, not, List, [], ◌∷◌, ◌++◌, Option, Some, None, option_map, leb, refl, sym, subst, arith}
use Rattle.std.specs.Prelude.{◌==◌, if◌then◌else◌, nat_le, nat_lt, length, take, is_some}
use Rattle.std.specs.List.{AllByRecursion}
use Rattle.std.proofs.lemmas.Bool.Decides.{nat_tests}
use Rattle.dm_ins.specs.declared.operand.WordRegister.TheVariants.{Bx, Bp, Si, Di}
use Rattle.dm_ins.specs.declared.operand.Base.{Base}
use Rattle.dm_ins.specs.declared.action.Mnemonic.{Mnemonic}
use Rattle.dm_ins.specs.declared.prefix.Prefixes.{Prefixes}
use Rattle.dm_ins.specs.Spelling.{no_prefix}
use Rattle.dm_ins.specs.Walks.{◌>>=◌}
use Rattle.dm_decode.specs.declared.words.written.Size.{Size}
use Rattle.dm_decode.specs.declared.words.written.Size.TheVariants.{Absent}
use Rattle.dm_decode.specs.Names.{named}
use Rattle.dm_lines.specs.declared.words.Keyword.{Keyword}
use Rattle.dm_lines.specs.declared.words.Keyword.TheVariants.{Nop}
use Rattle.dm_lines.specs.declared.words.Reserved.{Reserved}
use Rattle.dm_lines.specs.declared.words.Reserved.TheVariants as reserved_word
use Rattle.dm_lines.specs.declared.token.Name as Name'
use Rattle.dm_lines.specs.declared.token.Token.{Token}
use Rattle.dm_lines.specs.declared.token.Token.TheVariants as t
use Rattle.dm_lines.specs.declared.term.Amount.{Amount}
use Rattle.dm_lines.specs.declared.term.Amount.TheVariants.{Plus, Minus}
use Rattle.dm_lines.specs.declared.term.Expression.{Expression}
use Rattle.dm_lines.specs.declared.term.Term.{Term}
use Rattle.dm_lines.specs.declared.term.Term.TheVariants as term
use Rattle.dm_lines.specs.declared.statement.Instruction.{Instruction}
use Rattle.dm_lines.specs.Words.{reserved}
use Rattle.dm_lines.specs.inner.Words.{all_words, spelling_of, meaning_of, keyword_token}
use Rattle.dm_lines.proofs.ReservedPairs.{reserved_is}
use Rattle.dm_lines.specs.Tokens.{uppercase, is_word_byte, digit_of, magnitude_of, number_of, padded_of, or_name, word_token, closed, joined_to, then_list, sign_tokens, inside_quotes, lexed, tokens_of}
use Rattle.dm_lines.specs.Operands.{minus, amount_of, added_of, parsed_value, amount_word, base_at, based_term, onto, is_close, inside, memory_of, far_pointer, term_from_number, term_of, begin, is_comma, parts, term_pair, terms_of}
use Rattle.dm_lines.specs.Statements as line
use Rattle.dm_lines.specs.Statements.{Item, Statement, instruction, list_of_one, letters, bytes_item, word_items, mnemonic_at, prefixed, exchanges, is_memory, with_terms, operated, after_prefixes, instruction_of, item_of, statement_of, line_statement}
use Rattle.dm_lines.specs.Laws.{AmountFits, TermFits, ItemFits, NumbersFit}

-- a fact of what is there
abbrev Holds : {A : Type 0} → (A → Type 0) → Option A → Type 0
Holds P None = Unit {0}
Holds P (Some x) = P x

then_holds : {A B : Type 0} (P : A → Type 0) (Q : B → Type 0) (o : Option A) (f : A → Option B) → Holds P o →
    ((x : A) → P x → Holds Q (f x)) → Holds Q (o >>= f)
then_holds P Q None f h g = tt
then_holds P Q (Some x) f h g = g x h

map_holds : {A B : Type 0} (P : A → Type 0) (Q : B → Type 0) (o : Option A) (f : A → B) → Holds P o →
    ((x : A) → P x → Q (f x)) → Holds Q (option_map f o)
map_holds P Q None f h g = tt
map_holds P Q (Some x) f h g = g x h

either_holds : {A : Type 0} (P : A → Type 0) (c : Bool) (x y : Option A) → Holds P x → Holds P y →
    Holds P (if c then x else y)
either_holds P true x y h k = h
either_holds P false x y h k = k

abbrev TokenFits : Token → Type 0
TokenFits (t.Number n) = n < 2 ^ 16
TokenFits (t.Letter b) = b < 2 ^ 8
TokenFits _ = Unit {0}

abbrev TokensFit : List Token → Type 0
TokensFit ts = AllByRecursion TokenFits ts

-- ---- tokens

is_below : (n : ℕ) → leb 65536 n ≡ false → n < 2 ^ 16
is_below n h = grind (arith, nat_tests)

magnitude_fits : (base n : ℕ) (bs : List ℕ) → n < 2 ^ 16 → Holds (λ m. m < 2 ^ 16) (magnitude_of base n bs)
magnitude_fits base n [] h = h
magnitude_fits base n (b ∷ bs) h = by (digit_of b) (λ d k. magnitude_fits base (n * base + d) bs k)
  where
    below : (d : ℕ) (c : Bool) → leb 65536 (n * base + d) ≡ c → (n * base + d < 2 ^ 16 →
        Holds (λ m. m < 2 ^ 16) (magnitude_of base (n * base + d) bs)) → Holds (λ m. m < 2 ^ 16) (if c then None else
        magnitude_of base (n * base + d) bs)
    below d true e f = tt
    below d false e f = f (is_below (n * base + d) e)

    by : (o : Option ℕ) → ((d : ℕ) → n * base + d < 2 ^ 16 →
        Holds (λ m. m < 2 ^ 16) (magnitude_of base (n * base + d) bs)) →
        Holds (λ m. m < 2 ^ 16) (o >>= λ d. if nat_le base d then None else if nat_le 65536 (n * base + d) then None
        else magnitude_of base (n * base + d) bs)
    by None f = tt
    by (Some d) f = either_holds (λ m. m < 2 ^ 16) (nat_le base d) None _ tt (below d (leb 65536 (n * base + d)) refl
        (f d))

number_fits : (w : List ℕ) → Holds (λ m. m < 2 ^ 16) (number_of w)
number_fits w = either_holds (λ m. m < 2 ^ 16) _ _ _ (magnitude_fits 16 0 (take (length w - 1) w) (omega arith))
    (magnitude_fits 10 0 w (omega arith))

keyword_fits : (k : Keyword) → TokenFits (keyword_token k)
keyword_fits Nop = tt
keyword_fits _ = tt

meaning_fits : (r : Reserved) → TokenFits (meaning_of r)
meaning_fits (reserved_word.Byte r) = tt
meaning_fits (reserved_word.Word r) = tt
meaning_fits (reserved_word.Segment r) = tt
meaning_fits (reserved_word.Mnemonic m) = tt
meaning_fits (reserved_word.Alias a) = tt
meaning_fits (reserved_word.Keyword k) = keyword_fits k

reserved_fits : (w : List ℕ) → Holds TokenFits (reserved w)
reserved_fits w = subst (Holds TokenFits) (sym (reserved_is w)) (by (named spelling_of all_words w))
  where
    by : (o : Option Reserved) → Holds TokenFits (option_map meaning_of o)
    by None = tt
    by (Some r) = meaning_fits r

named_fits : (w : List ℕ) (o : Option Token) → Holds TokenFits o → Holds TokenFits (or_name w o)
named_fits w (Some x) h = h
named_fits w None h = either_holds TokenFits (nat_le (length w) 31) (Some (t.Name (padded_of w))) None tt tt

word_fits : (w : List ℕ) → Holds TokenFits (word_token w)
unfolding word_token
word_fits w = either_holds TokenFits _ _ _ (then_holds (λ n. n < 2 ^ 16) TokenFits (number_of w)
    (λ n. Some (t.Number n)) (number_fits w) (λ n h. h)) (named_fits w (reserved w) (reserved_fits w))

closed_fits : (w : List ℕ) → Holds TokensFit (closed w)
closed_fits [] = tt
closed_fits (b ∷ w) = map_holds TokenFits TokensFit (word_token (b ∷ w)) (λ x. x ∷ []) (word_fits (b ∷ w)) (λ x h. (
  h,
  tt,
))

append_fits : (xs ys : List Token) → TokensFit xs → TokensFit ys → TokensFit (xs ++ ys)
append_fits [] ys h k = k
append_fits (x ∷ xs) ys h k = (h.0, append_fits xs ys h.1 k)

front_fits : (xs : List Token) (r : Option (List Token)) → TokensFit xs → Holds TokensFit r →
    Holds TokensFit (joined_to xs r)
front_fits xs None h k = tt
front_fits xs (Some ys) h k = append_fits xs ys h k

tokens_then : (o r : Option (List Token)) → Holds TokensFit o → Holds TokensFit r → Holds TokensFit (then_list o r)
tokens_then None r h k = tt
tokens_then (Some xs) r h k = front_fits xs r h k

sign_fits : (c : Bool) (x : Token) (r : Option (List Token)) → TokenFits x → Holds TokensFit r →
    Holds TokensFit (if c then Some (x ∷ []) else r)
sign_fits true x r h k = (h, tt)
sign_fits false x r h k = k

sign_tokens_fit : (b : ℕ) → Holds TokensFit (sign_tokens b)
sign_tokens_fit b =
    either_holds TokensFit _ (Some []) _ tt
    (sign_fits (b == 39) t.Quote _ tt (sign_fits (b == 43) t.Plus _ tt (sign_fits (b == 44) t.Comma _ tt
    (sign_fits (b == 45) t.Minus _ tt
    (sign_fits (b == 58) t.Colon _ tt (sign_fits (b == 91) t.Open _ tt (sign_fits (b == 93) t.Close None tt tt)))))))

quoted_fits : (b : ℕ) → b < 2 ^ 8 → TokenFits (inside_quotes b)
quoted_fits b h = by (b == 39)
  where
    by : (c : Bool) → TokenFits (if c then t.Quote else t.Letter b)
    by true = tt
    by false = h

lexed_fits : (q : Bool) (w bs : List ℕ) → AllByRecursion (λ b. b < 2 ^ 8) bs → Holds TokensFit (lexed q w bs)
lexed_fits true w [] h = tt
lexed_fits true w (b ∷ bs) h = front_fits (inside_quotes b ∷ []) (lexed (not (b == 39)) w bs) (
  quoted_fits b h.0,
  tt,
) (lexed_fits (not (b == 39)) w bs h.1)
lexed_fits false w [] h = closed_fits w
lexed_fits false w (b ∷ bs) h =
    either_holds TokensFit (is_word_byte b) _ _ (lexed_fits false (w ++ uppercase b ∷ []) bs h.1)
    (either_holds TokensFit (b == 59) _ _ (closed_fits w)
    (tokens_then (closed w) (then_list (sign_tokens b) (lexed (b == 39) [] bs)) (closed_fits w)
    (tokens_then (sign_tokens b) (lexed (b == 39) [] bs) (sign_tokens_fit b) (lexed_fits (b == 39) [] bs h.1))))

-- ---- operands

minus_fits : (n : ℕ) → n < 2 ^ 16 → Holds AmountFits (minus n)
minus_fits n h = either_holds AmountFits (nat_le n 0x8000) (Some (Minus n)) None h tt

amount_fits : (ts : List Token) → TokensFit ts → Holds AmountFits (amount_of ts)
amount_fits (t.Number n ∷ []) h = h.0
amount_fits (t.Minus ∷ t.Number n ∷ []) h = minus_fits n h.1.0
amount_fits _ h = tt

added_fits : (ts : List Token) → TokensFit ts → Holds AmountFits (added_of ts)
added_fits [] h = omega arith
added_fits (t.Plus ∷ ts) h = amount_fits ts h.1
added_fits (t.Minus ∷ t.Number n ∷ []) h = minus_fits n h.1.0
added_fits _ h = tt

abbrev ValueFits : Expression → Type 0
ValueFits v = AmountFits v.amount

value_fits : (ts : List Token) → TokensFit ts → Holds ValueFits (parsed_value ts)
value_fits (t.Name l ∷ ts) h = map_holds AmountFits ValueFits (added_of ts) (λ n. record {
  label = Some l;
  amount = n;
}) (added_fits ts h.1) (λ n k. k)
value_fits ts h = map_holds AmountFits ValueFits (amount_of ts) (λ n. record { label = None; amount = n })
    (amount_fits ts h) (λ n k. k)

abbrev RestFits : {A : Type 0} → A × List Token → Type 0
RestFits x = TokensFit x.1

base_fits : (ts : List Token) → TokensFit ts → Holds RestFits (base_at ts)
unfolding base_at
base_fits (t.Word Bx ∷ t.Plus ∷ t.Word Si ∷ ts) h = h.1.1.1
base_fits (t.Word Bx ∷ t.Plus ∷ t.Word Di ∷ ts) h = h.1.1.1
base_fits (t.Word Bp ∷ t.Plus ∷ t.Word Si ∷ ts) h = h.1.1.1
base_fits (t.Word Bp ∷ t.Plus ∷ t.Word Di ∷ ts) h = h.1.1.1
base_fits (t.Word Si ∷ ts) h = h.1
base_fits (t.Word Di ∷ ts) h = h.1
base_fits (t.Word Bp ∷ ts) h = h.1
base_fits (t.Word Bx ∷ ts) h = h.1
base_fits _ h = tt

based_fits : (s : Size) (o : Option (Base × List Token)) (ts : List Token) → Holds RestFits o → TokensFit ts →
    Holds TermFits (based_term s o ts)
based_fits s None ts h k = map_holds ValueFits TermFits (parsed_value ts) (term.Address s) (value_fits ts k) (λ v m. m)
based_fits s (Some b) ts h k = map_holds AmountFits TermFits (added_of b.1) (term.Memory s b.0) (added_fits b.1 h)
    (λ n m. m)

onto_fits : (x : Token) (o : Option (List Token)) → TokenFits x → Holds TokensFit o → Holds TokensFit (onto x o)
onto_fits x None h k = tt
onto_fits x (Some ts) h k = (h, k)

inside_fits : (ts : List Token) → TokensFit ts → Holds TokensFit (inside ts)
inside_fits [] h = tt
inside_fits (x ∷ []) h = either_holds TokensFit (is_close x) (Some []) None tt tt
inside_fits (x ∷ y ∷ ts) h = onto_fits x (inside (y ∷ ts)) h.0 (inside_fits (y ∷ ts) h.1)

memory_fits : (s : Size) (ts : List Token) → TokensFit ts → Holds TermFits (memory_of s ts)
memory_fits s ts h = then_holds TokensFit TermFits (inside ts) _ (inside_fits ts h)
    (λ xs k. based_fits s (base_at xs) xs (base_fits xs k) k)

word_of_fits : (n : Amount) → AmountFits n → amount_word n < 2 ^ 16
word_of_fits (Plus n) h = h
word_of_fits (Minus n) h = omega arith

far_fits : (n : Amount) (ts : List Token) → AmountFits n → TokensFit ts → Holds TermFits (far_pointer n ts)
far_fits n ts h k = map_holds AmountFits TermFits (amount_of ts) (λ m. term.Far (amount_word n) (amount_word m))
    (amount_fits ts k) (λ m l. (word_of_fits n h, word_of_fits m l))

number_term_fits : (ts : List Token) → TokensFit ts → Holds TermFits (term_from_number ts)
number_term_fits (t.Number n ∷ t.Colon ∷ ts) h = far_fits (Plus n) ts h.0 h.1.1
number_term_fits (t.Minus ∷ t.Number n ∷ t.Colon ∷ ts) h =
    then_holds AmountFits TermFits (minus n) _ (minus_fits n h.1.0) (λ m k. far_fits m ts k h.1.1.1)
number_term_fits ts h = map_holds ValueFits TermFits (parsed_value ts) term.Number (value_fits ts h) (λ v m. m)

term_fits : (ts : List Token) → TokensFit ts → Holds TermFits (term_of ts)
unfolding term_of
term_fits (t.Byte r ∷ []) h = tt
term_fits (t.Word r ∷ []) h = tt
term_fits (t.Segment r ∷ []) h = tt
term_fits (t.Size s ∷ t.Open ∷ ts) h = memory_fits s ts h.1.1
term_fits (t.Open ∷ ts) h = memory_fits Absent ts h.1
term_fits ts h = number_term_fits ts h

PartsFit : List (List Token) → Type 0
PartsFit ps = AllByRecursion TokensFit ps

begin_fits : (x : Token) (ps : List (List Token)) → TokenFits x → PartsFit ps → PartsFit (begin x ps)
unfolding PartsFit
begin_fits x [] h k = ((h, tt), tt)
begin_fits x (p ∷ ps) h k = ((h, k.0), k.1)

parts_fit : (ts : List Token) → TokensFit ts → PartsFit (parts ts)
unfolding PartsFit
parts_fit [] h = (tt, tt)
parts_fit (x ∷ ts) h = by (is_comma x) (parts_fit ts h.1)
  where
    by : (c : Bool) → PartsFit (parts ts) → PartsFit (if c then [] ∷ parts ts else begin x (parts ts))
    by true k = (tt, k)
    by false k = begin_fits x (parts ts) h.0 k

abbrev TermsFit : Term × Term → Type 0
TermsFit x = TermFits x.0 × TermFits x.1

pair_fits : (ps : List (List Token)) → PartsFit ps → Holds TermsFit (term_pair ps)
unfolding PartsFit
pair_fits (p ∷ []) h = map_holds TermFits TermsFit (term_of p) (λ x. (x, term.Nothing)) (term_fits p h.0) (λ x k. (
  k,
  tt,
))
pair_fits (p ∷ q ∷ []) h = then_holds TermFits TermsFit (term_of p) _ (term_fits p h.0)
    (λ x k. then_holds TermFits TermsFit (term_of q) (λ y. Some (x, y)) (term_fits q h.1.0) (λ y l. (k, l)))
pair_fits _ h = tt

terms_fit : (ts : List Token) → TokensFit ts → Holds TermsFit (terms_of ts)
terms_fit [] h = (tt, tt)
terms_fit (x ∷ ts) h = pair_fits (parts (x ∷ ts)) (parts_fit (x ∷ ts) h)

-- ---- statements

mnemonic_fits : (ts : List Token) → TokensFit ts → Holds RestFits (mnemonic_at ts)
mnemonic_fits (t.Mnemonic m ∷ t.Short ∷ ts) h = map_holds (λ j. Unit {0}) RestFits (line.short_of m) (λ j. (
  j,
  ts,
)) (any (line.short_of m)) (λ j k. h.1.1)
  where
    any : (o : Option Mnemonic) → Holds (λ j. Unit {0}) o
    any None = tt
    any (Some j) = tt
mnemonic_fits (t.Mnemonic m ∷ t.Far ∷ ts) h = map_holds (λ j. Unit {0}) RestFits (line.far_mnemonic m) (λ j. (
  j,
  ts,
)) (any (line.far_mnemonic m)) (λ j k. h.1.1)
  where
    any : (o : Option Mnemonic) → Holds (λ j. Unit {0}) o
    any None = tt
    any (Some j) = tt
mnemonic_fits (t.Mnemonic m ∷ ts) h = h.1
mnemonic_fits _ h = tt

prefixes_fit : (p : Prefixes) (ts : List Token) → TokensFit ts → Holds RestFits (prefixed p ts)
prefixes_fit p (t.Segment r ∷ ts) h = either_holds RestFits (is_some p.segment) None
    (prefixed (record p { segment = Some r }) ts) tt (prefixes_fit (record p { segment = Some r }) ts h.1)
prefixes_fit p (t.Lock ∷ ts) h = either_holds RestFits p.lock None (prefixed (record p { lock = true }) ts) tt
    (prefixes_fit (record p { lock = true }) ts h.1)
prefixes_fit p (t.Repeat r ∷ ts) h = either_holds RestFits (is_some p.repeat) None
    (prefixed (record p { repeat = Some r }) ts) tt (prefixes_fit (record p { repeat = Some r }) ts h.1)
prefixes_fit p ts h = h

abbrev InstructionFits : Instruction → Type 0
InstructionFits i = TermFits i.first × TermFits i.second

exchanged_fits : (p : Prefixes) (m : Mnemonic) (x y : Term) → TermFits x → TermFits y →
    InstructionFits (with_terms p m x y)
exchanged_fits p m x y h k = by (if exchanges m then is_memory y else false)
  where
    by : (c : Bool) → InstructionFits (if c then record { prefixes = p; mnemonic = m; first = y; second = x } else
        record { prefixes = p; mnemonic = m; first = x; second = y })
    by true = (k, h)
    by false = (h, k)

operated_fits : (p : Prefixes) (ts : List Token) → TokensFit ts → Holds InstructionFits (operated p ts)
operated_fits p ts h = then_holds RestFits InstructionFits (mnemonic_at ts) _ (mnemonic_fits ts h)
    (λ m k. then_holds TermsFit InstructionFits (terms_of m.1) _ (terms_fit m.1 k)
    (λ xs l. exchanged_fits p m.0 xs.0 xs.1 l.0 l.1))

action_fits : (p : Prefixes) (ts : List Token) → TokensFit ts → Holds InstructionFits (after_prefixes p ts)
action_fits p (t.Nop ∷ []) h = (tt, tt)
action_fits p ts h = operated_fits p ts h

instruction_fits : (ts : List Token) → TokensFit ts → Holds InstructionFits (instruction_of ts)
instruction_fits ts h = then_holds RestFits InstructionFits (prefixed no_prefix ts) _ (prefixes_fit no_prefix ts h)
    (λ p k. action_fits p.0 p.1 k)

ListFits : {A : Type 0} → (A → Type 0) → List A → Type 0
ListFits P xs = AllByRecursion P xs

joined_fits : {A : Type 0} (P : A → Type 0) (xs ys : List A) → ListFits P xs → ListFits P ys → ListFits P (xs ++ ys)
unfolding ListFits
joined_fits P [] ys h k = k
joined_fits P (x ∷ xs) ys h k = (h.0, joined_fits P xs ys h.1 k)

joined_to_fits : {A : Type 0} (P : A → Type 0) (xs : List A) (o : Option (List A)) → ListFits P xs →
    Holds (ListFits P) o → Holds (ListFits P) (joined_to xs o)
joined_to_fits P xs None h k = tt
joined_to_fits P xs (Some ys) h k = joined_fits P xs ys h k

then_list_fits : {A : Type 0} (P : A → Type 0) (o r : Option (List A)) → Holds (ListFits P) o → Holds (ListFits P) r →
    Holds (ListFits P) (then_list o r)
then_list_fits P None r h k = tt
then_list_fits P (Some xs) r h k = joined_to_fits P xs r h k

one_fits : {A : Type 0} (P : A → Type 0) (o : Option A) → Holds P o → Holds (ListFits P) (list_of_one o)
unfolding ListFits
one_fits P None h = tt
one_fits P (Some x) h = (h, tt)

letters_fit : (ts : List Token) → TokensFit ts → Holds (ListFits AmountFits) (letters ts)
unfolding ListFits
letters_fit (t.Quote ∷ []) h = tt
letters_fit (t.Letter b ∷ ts) h = joined_to_fits AmountFits (Plus b
    ∷ []) (letters ts) (let k : b < 2 ^ 8 = h.0 in omega arith, tt) (letters_fit ts h.1)
letters_fit _ h = tt

bytes_item_fits : (ts : List Token) → TokensFit ts → Holds (ListFits AmountFits) (bytes_item ts)
bytes_item_fits (t.Quote ∷ ts) h = letters_fit ts h.1
bytes_item_fits ts h = one_fits AmountFits (amount_of ts) (amount_fits ts h)

bytes_fit : (ps : List (List Token)) → PartsFit ps → Holds (ListFits AmountFits) (line.byte_items ps)
unfolding ListFits PartsFit
bytes_fit [] h = tt
bytes_fit (p ∷ ps) h = then_list_fits AmountFits (bytes_item p) (line.byte_items ps) (bytes_item_fits p h.0)
    (bytes_fit ps h.1)

words_fit : (ps : List (List Token)) → PartsFit ps → Holds (ListFits ValueFits) (word_items ps)
unfolding ListFits PartsFit
words_fit [] h = tt
words_fit (p ∷ ps) h = then_list_fits ValueFits (list_of_one (parsed_value p)) (word_items ps)
    (one_fits ValueFits (parsed_value p) (value_fits p h.0)) (words_fit ps h.1)

item_fits : (ts : List Token) → TokensFit ts → Holds ItemFits (item_of ts)
unfolding ListFits
item_fits [] h = tt
item_fits (t.DataBytes ∷ ts) h = map_holds (ListFits AmountFits) ItemFits (line.byte_items (parts ts)) line.bytes
    (bytes_fit (parts ts) (parts_fit ts h.1)) (λ bs k. k)
item_fits (t.DataWords ∷ ts) h = map_holds (ListFits ValueFits) ItemFits (word_items (parts ts)) line.words
    (words_fit (parts ts) (parts_fit ts h.1)) (λ ws k. k)
item_fits ts h = map_holds InstructionFits ItemFits (instruction_of ts) instruction (instruction_fits ts h) (λ i k. k)

abbrev StatementFits : Statement → Type 0
StatementFits s = ItemFits s.item

statement_fits : (ts : List Token) → TokensFit ts → Holds StatementFits (statement_of ts)
statement_fits (t.Name l ∷ t.Colon ∷ ts) h = map_holds ItemFits StatementFits (item_of ts)
    (λ i. record { label = Some l; item = i }) (item_fits ts h.1.1) (λ i k. k)
statement_fits ts h = map_holds ItemFits StatementFits (item_of ts) (λ i. record {
  label = None;
  item = i;
}) (item_fits ts h) (λ i k. k)

line_fits : (line : List ℕ) → AllByRecursion (λ b. b < 2 ^ 8) line → Holds StatementFits (line_statement line)
unfolding line_statement tokens_of
line_fits line h = either_holds StatementFits (nat_lt 255 (length line)) None _ tt
    (then_holds TokensFit StatementFits (lexed false [] line) statement_of (lexed_fits false [] line h)
    (λ ts k. statement_fits ts k))

pub numbers_fit : NumbersFit
numbers_fit line s h e = let k : Holds StatementFits (Some s) =
    subst (λ (o : Option Statement). Holds StatementFits o) e (line_fits line h) in k
