-- What the proofs of both entries use.
mod Answered
