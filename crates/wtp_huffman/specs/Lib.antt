pub mod HuffmanRows
pub mod Huffman
pub mod HuffmanShort
pub mod HuffmanPairs
pub mod HuffmanDecoding
pub mod HuffmanEncoding
