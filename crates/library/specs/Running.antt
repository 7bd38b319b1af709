-- What any list of calls answers, and what the lists that were lent hold in the end. Assumes nothing.
use Rattle.std.specs.Prelude.{◌≡◌, ℕ, min, true, List, [], ◌++◌, length, take, drop}
use Rattle.std.specs.declared.cmp.Ordering.{Ordering}
use Rattle.std.specs.List.{AllByRecursion}
use Rattle.order.specs.Listed.{In, ListsExactly}
use Rattle.tokens.specs.declared.token.Token.{Token}
use Rattle.tokens.specs.Tokens.{limit}
use Rattle.runs.specs.Shares.{unused}
use Rattle.runs.specs.Passages.{Scheme, scheme, Print, row}
use Rattle.model.specs.declared.fingerprint.Fingerprint.{Fingerprint}
use Rattle.model.specs.Files.{Files, held_tokens}
use Rattle.model.specs.Prints.{by_fields, print_count}
use Rattle.model.specs.Calls.{Setting, Asked, Outcome, padded, held_after, quiet}
use Rattle.promises.specs.Promises.{Answered, Promised}

-- the setting of a library over lists of these lengths
abbrev pub setting_over : {V : Type 0} → (List ℕ → V) → (V → V → Ordering) → ℕ → ℕ → ℕ → ℕ → Setting V
setting_over value cmp k t tokens index = record { scheme = scheme value cmp k t; tokens = min tokens limit; index = min index limit }

-- e is a fingerprint of a held file: a chosen place of it, with its value
pub record IsPrint {V : Type 0} (S : Scheme V) (fs : Files) (e : Fingerprint V) : Type 0 where
  pub tokens : List Token
  pub held : In (e.file, tokens) fs
  pub chosen : Print S tokens e.place
  pub value : e.value ≡ row S tokens e.place

-- the token list holds the tokens of the held files in order, then unused ones; entries past those that are used are untouched
abbrev pub TokensHold : {V : Type 0} → Setting V → Files → List Token → List Token → Type 0
TokensHold st fs before after = after ≡ padded (held_tokens fs) st.tokens unused ++ drop st.tokens before

-- the used part of the index is the rising list of exactly the fingerprints of the held files; entries past those that are used are untouched
pub record IndexHolds {V : Type 0} (st : Setting V) (fs : Files) (before after : List (Fingerprint V)) : Type 0 where
  pub lists : ListsExactly (by_fields st.scheme.cmp) (take (print_count st.scheme fs) after) (IsPrint st.scheme fs)
  pub count : length (take (print_count st.scheme fs) after) ≡ print_count st.scheme fs
  pub beyond : drop st.index after ≡ drop st.index before

-- the calls cs of a library that is opened over these lists had the outcomes os
pub record Ran {V : Type 0} (st : Setting V) (cs : List Asked) (os : List Outcome) (tokens tokens' : List Token) (index index' : List (Fingerprint V)) : Type 0 where
  pub answered : Answered st cs os
  pub promised : Promised st cs os
  pub token_list : TokensHold st (held_after st [] cs) tokens tokens'
  pub index_list : IndexHolds st (held_after st [] cs) index index'
  -- where each call was refused or only asked, every entry of the index is as it was
  pub unchanged : AllByRecursion (λ o. quiet o ≡ true) os → index' ≡ index
