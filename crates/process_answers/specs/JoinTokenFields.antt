-- How a `JoinToken` keeps a token: at the front of an array, zeros behind it.
use Rattle.std.specs.Prelude.{◌≡◌, ℕ, ◌-◌, ◌++◌, List, length, take, replicate}
use Rattle.process_answers.specs.JoinToken.{IsToken}
use Rattle.process_answers.specs.declared.join_token.JoinToken.TheInside.{Inside}

abbrev pub token_in : Inside → List ℕ
token_in fields = take fields.token_len fields.text

abbrev pub fields_of : List ℕ → Inside
fields_of token = record { token_len = length token; text = token ++ replicate (64 - length token) 0 }

-- the fields are just those of a token
pub record HoldsToken (fields : Inside) : Type 0 where
  pub is_token : IsToken (token_in fields)
  pub exact : fields_of (token_in fields) ≡ fields
