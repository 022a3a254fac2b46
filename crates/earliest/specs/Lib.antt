pub mod Heap
pub mod HeapOrder
pub mod Numbers
pub mod Order
pub mod Sorted
