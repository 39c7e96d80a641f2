-- Nothing here has to be believed: the contract of `check_scopes` is in words of jo_parse_grammar. `inner` serves:
-- what private functions do to the names of blocks.
pub mod inner
