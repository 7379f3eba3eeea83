-- Laws of the definitions of specs/.
pub mod Laws
-- What SHAKE256 puts out.
pub mod HashedBytes
